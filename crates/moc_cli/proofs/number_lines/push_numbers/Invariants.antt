-- The others so far follow the first.
use Rattle.std.proofs.Common.{◌≡◌, ◌++◌, take}
use Rattle.std.specs.String.{string_bytes}
use Rattle.moc_cli.proofs.NumberLines.{with_spaces}
use Rattle.moc_cli.proofs.number_lines.push_numbers.Given as goal

abbrev pub invariant-loop-number : goal.invariant-loop-number
invariant-loop-number l = string_bytes l.line ≡ string_bytes l.initial.line ++ with_spaces (take l.number-index l.others)
