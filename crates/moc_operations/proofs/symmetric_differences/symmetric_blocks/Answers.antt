use Rattle.std.proofs.Common.{ap}
use Rattle.std.proofs.lemmas.Result.{IfOk-weaker}
use Rattle.moc_blocks.specs.Private.Built.{ranges_of}
use Rattle.moc_operations.proofs.Differing.{differing_start, differs_view}
use Rattle.moc_operations.proofs.Bounds.{common_of}
use Rattle.moc_operations.proofs.symmetric_differences.symmetric_blocks.Goals as goal

pub loop-built-init : goal.loop-built-init
loop-built-init c = common_of _ _ _ _ _ (differing_start _ _ _ (ap ranges_of c.in_ok-built.ensures) c.requires.xs c.requires.ys)

pub symmetric_block-requires : goal.symmetric_block-requires
symmetric_block-requires c = record { started = (c.args.xs, (c.args.ys, c.in_ok-push_shared_apart.ensures.on _ _ c.loop-built.invariant)) }

pub loop-built-preserved : goal.loop-built-preserved
loop-built-preserved c = c.in_ok-met.ensures.on _ _ (c.in_ok-push_shared_apart.ensures.on _ _ c.loop-built.invariant)

pub finish_symmetric_blocks-requires-clause-started : goal.finish_symmetric_blocks-requires-clause-started
finish_symmetric_blocks-requires-clause-started c = (c.args.xs, (c.args.ys, c.in_ok-met.ensures.on _ _ (c.in_ok-push_shared_apart.ensures.on _ _ c.loop-built.invariant)))

pub returns-then-not-met : goal.returns-then-not-met
returns-then-not-met c =
    IfOk-weaker c.finish_symmetric_blocks.result _ _ (λ written is. differs_view c.args.xs c.args.ys written (is c.args.xs c.args.ys (c.in_ok-met.ensures.on _ _ (c.in_ok-push_shared_apart.ensures.on _ _ c.loop-built.invariant)))) c.finish_symmetric_blocks.ensures
