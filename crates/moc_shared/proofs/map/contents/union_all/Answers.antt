use Rattle.std.proofs.Common.{ap, ◌∙◌}
use Rattle.std.proofs.lemmas.Result.{IfOk-weaker}
use Rattle.moc_parts.specs.Parts.{union_of}
use Rattle.moc_shared.proofs.SlotSets.{equal_slot_sets}
use Rattle.moc_shared.proofs.map.contents.union_all.Goals as goal

pub returns : goal.returns
returns c =
    IfOk-weaker c.merge_parts.result _ _
    (λ set is. is ∙ ap union_of (equal_slot_sets c.lists.result c.args.slots.now c.lists.ensures)) c.merge_parts.ensures
