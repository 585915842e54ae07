-- The first failure so far.
use Rattle.std.proofs.Common.{take}
use Rattle.moc_script.specs.Private.Gathering.{IsFirstFailure}
use Rattle.moc_script.proofs.crews.gathering.first_failure.Given as goal

abbrev pub invariant-loop-end : goal.invariant-loop-end
invariant-loop-end l = IsFirstFailure (take l.end-index l.ends) l.first
