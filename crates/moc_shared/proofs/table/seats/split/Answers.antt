use Rattle.std.proofs.Common.{rules}
use Rattle.moc_shared.specs.Batches.{batch_answer}
use Rattle.moc_shared.specs.Private.Seats.{content, part, IsInSky}
use Rattle.moc_shared.proofs.Regroups.{splits}
use Rattle.moc_shared.proofs.table.seats.split.Goals as goal

pub split_seat-requires : goal.split_seat-requires
split_seat-requires c = (search rules, search rules, splits 12 content part batch_answer IsInSky _ _ _ _ c.requires.client)
