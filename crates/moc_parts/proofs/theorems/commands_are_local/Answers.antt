use Rattle.moc_parts.proofs.Locality.{command_local}
use Rattle.moc_parts.proofs.theorems.commands_are_local.Goals as goal

pub returns : goal.returns
returns c = command_local
