use Rattle.std.proofs.Common.{rules}
use Rattle.moc_parts.proofs.Flags.{flags_of_parts}
use Rattle.moc_parts.proofs.part.PartSetPartialEq.eq.Goals as goal

pub returns : goal.returns
returns c = search (rules, flags_of_parts)
