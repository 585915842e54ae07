use Rattle.std.proofs.Common.{sym, subst, List}
use Rattle.std.proofs.lemmas.Result.{IfOk-weaker}
use Rattle.moc_lists.specs.RangeList.{NumberSet}
use Rattle.moc_parts.specs.Parts.{AreWithinParts, union_of}
use Rattle.moc_parts.specs.Prepared.{AreRepliesTo}
use Rattle.moc_shared.proofs.Unions.{lists_within_parts}
use Rattle.moc_shared.proofs.SlotSets.{equal_slot_sets}
use Rattle.moc_shared.proofs.Replying.{replies_same}
use Rattle.moc_shared.proofs.calls.lists.answer.Goals as goal

pub reply_of-requires-clause-parts : goal.reply_of-requires-clause-parts
reply_of-requires-clause-parts c =
    subst (λ (l : List NumberSet). AreWithinParts l) (sym (equal_slot_sets c.lists.result c.args.slots.now c.lists.ensures))
    (lists_within_parts c.args.slots.now c.type_inv.slots c.requires.own)

pub returns : goal.returns
returns c =
    IfOk-weaker c.reply_of.result _ _ (λ replies are.
    replies_same c.args.batch.now c.args.slots.now replies c.type_inv.slots c.requires.own
    (subst (λ (l : List NumberSet). AreRepliesTo c.args.batch.now (union_of l) replies)
    (equal_slot_sets c.lists.result c.args.slots.now c.lists.ensures) are)) c.reply_of.ensures
