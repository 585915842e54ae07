use Rattle.std.proofs.Common.{◌≤◌}
use Rattle.moc_c.specs.Private.Lookup.{IsRest}
use Rattle.moc_c.proofs.lookup.advance.Given as goal

abbrev pub invariant-loop-step : goal.invariant-loop-step
invariant-loop-step l = IsRest l.coverage l.rest l.passed × (l.passed ≤ l.pixel)
