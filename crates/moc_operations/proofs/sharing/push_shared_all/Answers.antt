use Rattle.moc_operations.proofs.MovedBlocks.{moving_start, moving_more}
use Rattle.moc_operations.proofs.sharing.push_shared_all.Goals as goal

pub loop-carried-init : goal.loop-carried-init
loop-carried-init c = moving_start _ _ c.args.limit c.requires

pub loop-carried-preserved : goal.loop-carried-preserved
loop-carried-preserved c = moving_more _ _ _ _ _ _ c.args.limit c.loop-carried.invariant c.in_ok-carried.ensures.carried

pub returns-then-not-carried : goal.returns-then-not-carried
returns-then-not-carried c = (moving_more _ _ _ _ _ _ c.args.limit c.loop-carried.invariant c.in_ok-carried.ensures.carried).carried
