use Rattle.std.proofs.Common.{◌≡◌}
use Rattle.moc_sphere.proofs.Search.{Found}
use Rattle.moc_sphere.proofs.neighbours.touching_across.Given as goal

abbrev pub invariant-loop-step : goal.invariant-loop-step
invariant-loop-step l = record { room : l.cells.capacity ≡ 8; found : Found l.fn.cell.order l.fn.cell.index l.step l.cells.items }
