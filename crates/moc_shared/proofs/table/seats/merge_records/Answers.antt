use Rattle.std.proofs.Common.{rules}
use Rattle.moc_shared.specs.Batches.{batch_answer}
use Rattle.moc_shared.specs.Private.Seats.{content, part, IsInSky}
use Rattle.moc_shared.proofs.Regroups.{gathers}
use Rattle.moc_shared.proofs.table.seats.merge_records.Goals as goal

pub load-requires : goal.load-requires
load-requires c =
    (search rules, search rules, gathers 12 content part batch_answer IsInSky _ _ _ _ _ _ c.requires.two.0 c.requires.client c.requires.two.1)
