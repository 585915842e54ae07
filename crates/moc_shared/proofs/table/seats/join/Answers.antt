use Rattle.std.proofs.Common.{rules, refl}
use Rattle.moc_shared.specs.Batches.{batch_answer}
use Rattle.moc_shared.specs.Private.Seats.{content, part, IsInSky}
use Rattle.moc_shared.proofs.Regroups.{joins}
use Rattle.moc_shared.proofs.table.seats.join.Goals as goal

pub join_seat-requires : goal.join_seat-requires
join_seat-requires c = (
  search rules,
  search rules,
  search rules,
  search rules,
  joins 12 content part batch_answer IsInSky _ _ _ _ _ _ _
      c.requires.client refl refl refl c.requires.idle.0,
)
