use Rattle.std.proofs.Common.{rules, arith}
use Rattle.moc_shared.specs.Batches.{batch_answer}
use Rattle.moc_shared.specs.Private.Seats.{content, part, IsInSky}
use Rattle.moc_shared.proofs.Moves.{takes_part}
use Rattle.moc_shared.proofs.table.steps.take_part.Goals as goal

pub compare_exchange-requires : goal.compare_exchange-requires
compare_exchange-requires c = (
  search rules,
  omega (arith, c.index.ensures.place, c.index.ensures.in_range, c.requires.place.1),
  takes_part 12 content part batch_answer IsInSky _ _ _ _ _ _ _ _ c.index.ensures.place c.index.ensures.in_range
      c.requires.client.0 c.requires.client.1 c.requires.other,
)

pub returns-clause-taken_or_missed : goal.returns-clause-taken_or_missed
returns-clause-taken_or_missed c = c.compare_exchange.ensures.2 c.args.part c.index.ensures.place
