-- The text so far and the texts of the other entries are the texts of all.
use Rattle.std.proofs.Common.{◌≡◌, ◌++◌, drop}
use Rattle.std.specs.List.{flat_map}
use Rattle.moc_script.proofs.Beginnings.{begin_of_entry}
use Rattle.moc_script.proofs.player.push_order.Given as goal

abbrev pub invariant-loop-entry : goal.invariant-loop-entry
invariant-loop-entry l =
    l.fn.text.items ++ flat_map (begin_of_entry l.begins) l.order
    ≡ l.text.items ++ flat_map (begin_of_entry l.begins) (drop l.entry-index l.order)
