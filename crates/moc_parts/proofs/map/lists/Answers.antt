use Rattle.std.proofs.Common.{◌<◌, ◌≤◌, subst, ◌∙◌}
use Rattle.std.proofs.lemmas.List.{get_or_default}
use Rattle.std.specs.FinSet as set
use Rattle.std.specs.Option.{option_copied}
use Rattle.moc_parts.specs.Prepared.{content_or_empty}
use Rattle.moc_parts.proofs.Drafting.{filled_lists_next, filled_lists_are_all}
use Rattle.moc_parts.proofs.map.lists.Goals as goal

pub loop-b-preserved : goal.loop-b-preserved
loop-b-preserved c =
    let within : c.loop-b.b < 12 = subst (λ n. c.loop-b.b < n) c.requires c.loop-b-test.true in
    filled_lists_next (λ part. content_or_empty (option_copied part)) c.args.parts.now c.loop-b.lists c.loop-b.b _ within
    (c.index-parts-b.is ∙ get_or_default c.args.parts.now c.loop-b.b c.index-parts-b.result set.empty c.loop-b-test.true) c.loop-b.invariant

pub returns : goal.returns
returns c = filled_lists_are_all (λ part. content_or_empty (option_copied part)) c.args.parts.now c.loop-b.lists c.loop-b.b c.requires
    (subst (λ n. n ≤ c.loop-b.b) c.requires c.loop-b-test.false) c.loop-b.invariant
