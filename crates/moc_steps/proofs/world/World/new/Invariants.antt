use Rattle.std.proofs.Common.{◌≡◌, ◌++◌}
use Rattle.std.specs.Vec.Iter.{into_iter_items}
use Rattle.moc_parts.specs.Parts.{parts_below}
use Rattle.moc_steps.proofs.world.World.new.Given as goal

-- the parts with an owner and the remaining lists
abbrev pub invariant-loop-list : goal.invariant-loop-list
invariant-loop-list l = l.parts.items ++ into_iter_items l.list-iterator ≡ parts_below l.fn.start 12
