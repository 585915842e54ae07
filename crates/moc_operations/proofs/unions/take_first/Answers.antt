use Rattle.std.proofs.Common.{get_or, arith}
use Rattle.moc_blocks.proofs.Basics.{first_item}
use Rattle.moc_operations.proofs.Turning.{symmetric_first, symmetric_second}
use Rattle.moc_operations.proofs.unions.take_first.Goals as goal

pub returns-then-x-y : goal.returns-then-x-y
returns-then-x-y c = λ bx by n m. symmetric_first c.args.xs.now c.args.ys.now _ _ bx by (get_or c.args.xs.now 0 (0, 0)) (get_or c.args.ys.now 0 (0, 0)) (first_item _ (0, 0) c.in-len1-up.len_at_least) (first_item _ (0, 0) c.in-len1-up-ys.len_at_least) (omega arith) n m

pub returns-else-x-y : goal.returns-else-x-y
returns-else-x-y c = λ bx by n m. symmetric_second c.args.xs.now c.args.ys.now _ _ bx by (get_or c.args.xs.now 0 (0, 0)) (get_or c.args.ys.now 0 (0, 0)) (first_item _ (0, 0) c.in-len1-up.len_at_least) (first_item _ (0, 0) c.in-len1-up-ys.len_at_least) (omega arith) n m
