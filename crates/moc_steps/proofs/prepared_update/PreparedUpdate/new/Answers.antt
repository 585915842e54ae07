use Rattle.std.proofs.Common.{List, subst, sym, ap, ◌∙◌}
use Rattle.moc_lists.specs.RangeList.{NumberSet}
use Rattle.moc_parts.specs.Parts.{union_of, AreWithinParts}
use Rattle.moc_parts.specs.Prepared.{is_given, IsPrepared}
use Rattle.moc_steps.specs.Private.ClientState.{contents_of}
use Rattle.moc_steps.proofs.Loops.{previous_copied, taken_is_copied}
use Rattle.moc_steps.proofs.TakenContents.{union_within_sky, result_from_prepared}
use Rattle.moc_steps.proofs.prepared_update.PreparedUpdate.new.Goals as goal

pub prepare-requires : goal.prepare-requires
prepare-requires c = subst AreWithinParts (sym (previous_copied c.lists_of.result ∙ ap contents_of c.lists_of.ensures)) c.requires.own

pub returns-clause-value : goal.returns-clause-value
returns-clause-value c =
    let taken_lists = c.args.taken_lists.now in
    let given = c.lists_of.result in
    let prepared = c.in_ok-prepared.prepared in
    result_from_prepared c.args.batch.now (is_given given) (union_of (contents_of taken_lists)) prepared c.args.entry_index c.in_ok-lists.lists c.into_reply.result (union_within_sky (contents_of taken_lists) c.requires.own)
    (subst (λ (As : List NumberSet). IsPrepared c.args.batch.now (is_given given) (union_of As) prepared) (previous_copied given ∙ ap contents_of c.lists_of.ensures) c.in_ok-prepared.ensures)
    (λ b l. taken_is_copied given taken_lists c.lists_of.ensures b ∙ c.requires.footprint b l)
    c.in_ok-lists.ensures.lists (c.into_reply.ensures ∙ c.in_ok-lists.ensures.replies)
