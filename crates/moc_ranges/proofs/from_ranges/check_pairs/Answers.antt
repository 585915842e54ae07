use Rattle.std.proofs.Common.{arith}
use Rattle.std.proofs.lemmas.Grind.{common_steps}
use Rattle.moc_ranges.proofs.from_ranges.check_pairs.Goals as goal

pub returns-then-pair-clause-err : goal.returns-then-pair-clause-err
returns-then-pair-clause-err c = grind (arith, common_steps)

pub returns-then-pair-gt-PIXEL_COUNT-clause-err : goal.returns-then-pair-gt-PIXEL_COUNT-clause-err
returns-then-pair-gt-PIXEL_COUNT-clause-err c = grind (arith, common_steps)

pub loop-at-preserved : goal.loop-at-preserved
loop-at-preserved c = grind (arith, common_steps)

pub returns-clause-ok : goal.returns-clause-ok
returns-clause-ok c = grind (arith, common_steps)
