use Rattle.std.proofs.Common.{◌<◌, get_or, length, List, sym, ap, subst, ◌∙◌}
use Rattle.std.specs.FinSet as set
use Rattle.std.proofs.lemmas.List.{get_or-map}
use Rattle.moc_lists.specs.RangeList.{NumberSet}
use Rattle.std.specs.Option.{option_copied}
use Rattle.moc_parts.specs.Parts.{union_of}
use Rattle.moc_parts.specs.Prepared.{content_or_empty, given_sets}
use Rattle.moc_parts.proofs.Twelve.{parts_length}
use Rattle.moc_parts.proofs.Drafting.{filled_lists_next, filled_lists_are_all, content_of}
use Rattle.moc_parts.proofs.draft.Draft.from_lists.Goals as goal
use Rattle.moc_parts.specs.Private.Drafts.{AreParts}

pub loop-b-preserved : goal.loop-b-preserved
loop-b-preserved c =
    let lists = c.args.lists.now in
    let within : c.loop-b.b < length lists = subst (λ n. c.loop-b.b < n) (sym c.told-lists) c.loop-b-test.true in
    filled_lists_next (λ x. x.now) (given_sets lists) c.loop-b.before c.loop-b.b c.unwrap_or.result c.loop-b-test.true
    (ap (λ x. x.now) c.unwrap_or.ensures ∙ content_of (get_or lists c.loop-b.b c.index-lists-b.result) c.args.no_pixels c.requires.no_pixels
    ∙ sym (get_or-map (λ part. content_or_empty (option_copied part)) lists c.loop-b.b c.index-lists-b.result set.empty within)) c.loop-b.invariant

pub without_changes-requires : goal.without_changes-requires
without_changes-requires c =
    let sets : List NumberSet = given_sets c.args.lists.now in
    let filled = filled_lists_are_all (λ x. x.now) sets c.loop-b.before c.loop-b.b (parts_length sets c.requires.parts) c.loop-b-test.false c.loop-b.invariant in
    subst AreParts (sym filled) c.requires.parts

pub returns : goal.returns
returns c =
    let sets : List NumberSet = given_sets c.args.lists.now in
    let filled = filled_lists_are_all (λ x. x.now) sets c.loop-b.before c.loop-b.b (parts_length sets c.requires.parts) c.loop-b-test.false c.loop-b.invariant in
    c.without_changes.ensures ∙ (λ i. record { before = filled i; set = union_of (filled i) })
