use Rattle.std.proofs.Common.{ap, ◌∙◌}
use Rattle.std.specs.FinSet as set
use Rattle.moc_lists.specs.RangeList.{NumberSet}
use Rattle.moc_parts.specs.declared.reply.Reply.TheVariants.{Changed}
use Rattle.moc_parts.proofs.CommandsInOrder.{operand_within}
use Rattle.moc_parts.proofs.ChangedPixels.{changed_pixels-intersection}
use Rattle.moc_parts.proofs.draft.Draft.keep.Goals as goal

pub change-requires : goal.change-requires
change-requires c = operand_within c.args.operand.now c.set.result.now c.requires (c.set.ensures ∙ c.in_ok-effective_set.ensures)

pub returns-clause-set : goal.returns-clause-set
returns-clause-set c = c.in_ok-removed.ensures.set ∙ ap (λ (s : NumberSet). set.intersection c.args.self.now.set s) (c.set.ensures ∙ c.in_ok-effective_set.ensures)

pub returns-clause-reply : goal.returns-clause-reply
returns-clause-reply c =
    ap Changed (c.in_ok-removed.ensures.changed_pixels ∙ ap set.len (changed_pixels-intersection c.args.self.now.set c.set.result.now)
    ∙ ap (λ (s : NumberSet). set.len (set.difference c.args.self.now.set s)) (c.set.ensures ∙ c.in_ok-effective_set.ensures))
