use Rattle.std.proofs.Common.{◌<◌, length, arith}
use Rattle.moc_blocks.proofs.Places.{shift_by_zero, start_before_shift, shift_next_start, all_starts_shifted}
use Rattle.moc_lists.proofs.nodes.shift_each.Goals as goal

pub returns-then-less-more : goal.returns-then-less-more
returns-then-less-more c = shift_by_zero c.args.less c.args.more c.args.starts.now c.if-less-more.true c.requires

pub overflow_sub-start : goal.overflow_sub-start
overflow_sub-start c =
    let lt : c.loop-start.start-index < length c.args.starts.now = omega arith in
    omega (arith, start_before_shift c.args.less c.args.more c.args.starts.now c.loop-start.starts c.loop-start.start-index lt c.loop-start.invariant, (c.requires c.loop-start.start-index lt).0)

pub overflow_add-start : goal.overflow_add-start
overflow_add-start c =
    let lt : c.loop-start.start-index < length c.args.starts.now = omega arith in
    omega (arith, start_before_shift c.args.less c.args.more c.args.starts.now c.loop-start.starts c.loop-start.start-index lt c.loop-start.invariant, (c.requires c.loop-start.start-index lt).0, (c.requires c.loop-start.start-index lt).1)

pub loop-start-preserved : goal.loop-start-preserved
loop-start-preserved c =
    let lt : c.loop-start.start-index < length c.args.starts.now = omega arith in
    shift_next_start c.args.less c.args.more c.args.starts.now c.loop-start.starts c.loop-start.start-index lt c.loop-start.invariant

pub returns : goal.returns
returns c = all_starts_shifted c.args.less c.args.more c.args.starts.now c.loop-start.starts c.loop-start.start-index (omega arith) c.loop-start.invariant
