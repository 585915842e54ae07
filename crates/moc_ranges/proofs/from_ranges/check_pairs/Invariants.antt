use Rattle.std.proofs.Common.{◌≡◌, drop}
use Rattle.moc_ranges.specs.Errors.{first_error, first_error_of, pair_error}
use Rattle.moc_ranges.proofs.from_ranges.check_pairs.Given as goal

abbrev pub invariant-loop-at : goal.invariant-loop-at
invariant-loop-at l = first_error_of pair_error l.at (drop l.at l.pairs) ≡ first_error l.pairs
