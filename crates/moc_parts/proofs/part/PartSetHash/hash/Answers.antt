use Rattle.std.proofs.Common.{rules}
use Rattle.moc_parts.proofs.Flags.{flags_of_parts}
use Rattle.moc_parts.proofs.part.PartSetHash.hash.Goals as goal

pub returns : goal.returns
returns g c = search (rules, flags_of_parts)
