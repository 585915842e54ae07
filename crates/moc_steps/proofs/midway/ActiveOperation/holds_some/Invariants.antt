use Rattle.std.proofs.Common.{◌≡◌, false}
use Rattle.std.specs.List.{list_any}
use Rattle.moc_parts.specs.Batches.{batches}
use Rattle.moc_steps.specs.Machine.{holds}
use Rattle.moc_steps.proofs.Batches.{parts_below}
use Rattle.moc_steps.proofs.midway.ActiveOperation.holds_some.Given as goal

-- the client holds none of the earlier parts
abbrev pub invariant-loop-part : goal.invariant-loop-part
invariant-loop-part l = list_any (holds batches l.fn.self.running) (parts_below l.part-index) ≡ false
