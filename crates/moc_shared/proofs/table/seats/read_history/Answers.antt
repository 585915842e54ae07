use Rattle.std.proofs.Common.{rules}
use Rattle.moc_shared.specs.Batches.{batch_answer}
use Rattle.moc_shared.specs.Private.Seats.{content, part, IsInSky}
use Rattle.moc_shared.proofs.Regroups.{looks}
use Rattle.moc_shared.proofs.table.seats.read_history.Goals as goal

pub load-requires : goal.load-requires
load-requires c = (search rules, search rules, looks 12 content part batch_answer IsInSky _ _ _ _ _ _ c.requires.client)
