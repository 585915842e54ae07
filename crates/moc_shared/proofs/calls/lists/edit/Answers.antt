use Rattle.std.proofs.Common.{sym, ◌∙◌, subst, List}
use Rattle.moc_lists.specs.RangeList.{NumberSet}
use Rattle.moc_parts.specs.Parts.{AreWithinParts, union_of}
use Rattle.moc_parts.specs.Prepared.{AreChanges}
use Rattle.moc_shared.specs.Private.Slots.{lists_of}
use Rattle.moc_shared.proofs.Unions.{lists_within_parts}
use Rattle.moc_shared.proofs.SlotSets.{equal_slot_sets}
use Rattle.moc_shared.proofs.Replying.{replies_same, edits_from}
use Rattle.moc_shared.proofs.calls.lists.edit.Goals as goal

pub prepare_changes-requires : goal.prepare_changes-requires
prepare_changes-requires c =
    subst (λ (l : List NumberSet). AreWithinParts l) (sym (equal_slot_sets c.lists.result c.args.slots.now c.lists.ensures))
    (lists_within_parts c.args.slots.now c.type_inv.slots c.requires.own)

pub returns-clause-replies : goal.returns-clause-replies
returns-clause-replies c =
    let changes : AreChanges c.args.batch.now (union_of (lists_of c.args.slots.now)) c.in_ok-changes.changes =
    subst (λ (l : List NumberSet). AreChanges c.args.batch.now (union_of l) c.in_ok-changes.changes)
    (equal_slot_sets c.lists.result c.args.slots.now c.lists.ensures) c.in_ok-changes.ensures in
    c.into_reply.ensures ∙ c.share_all.ensures.replies
    ∙ replies_same c.args.batch.now c.args.slots.now c.in_ok-changes.changes.replies c.type_inv.slots c.requires.own
    changes.determined.replied

pub returns-clause-edited : goal.returns-clause-edited
returns-clause-edited c =
    edits_from c.args.batch.now c.args.slots.now c.share_all.new.edited c.in_ok-changes.changes c.type_inv.slots
    c.requires.own c.requires.footprint
    (subst (λ (l : List NumberSet). AreChanges c.args.batch.now (union_of l) c.in_ok-changes.changes)
    (equal_slot_sets c.lists.result c.args.slots.now c.lists.ensures) c.in_ok-changes.ensures)
    c.in_ok-share_all.ensures.lists
