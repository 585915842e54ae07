use Rattle.std.proofs.Common.{arith}
use Rattle.moc_operations.proofs.GapsOf.{skipped_below_limit, left_more, left_weaker}
use Rattle.moc_operations.proofs.differences.skip_through.Goals as goal

pub returns-then-is_in_block : goal.returns-then-is_in_block
returns-then-is_in_block c = left_weaker c.args.limit _ _ _ c.skip_below.ensures.out (omega arith)

pub returns : goal.returns
returns c = left_more c.args.limit _ _ _ _ c.skip_below.ensures.out (omega arith) (skipped_below_limit c.args.limit _ _ c.skip_to.ensures.0 c.skip_to.ensures.1)
