use Rattle.moc_parts.proofs.BatchLocality.{batch_local}
use Rattle.moc_parts.proofs.theorems.batches_are_local.Goals as goal

pub returns : goal.returns
returns c = batch_local
