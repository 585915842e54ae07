use Rattle.std.proofs.Common.{◌+◌, arith}
use Rattle.moc_blocks.proofs.Places.{part_of_starts_shifted, part_fits}
use Rattle.moc_lists.proofs.nodes.shift_after.Goals as goal

pub slice_bounds-shift_each-start : goal.slice_bounds-shift_each-start
slice_bounds-shift_each-start c = omega arith

pub shift_each-requires : goal.shift_each-requires
shift_each-requires c = part_fits c.args.less c.args.more (c.args.place + 1) c.args.starts.now.items c.deref_mut.result.now c.deref_mut.ensures.value c.requires.fits

pub returns-clause-shift_starts : goal.returns-clause-shift_starts
returns-clause-shift_starts c =
    part_of_starts_shifted c.args.less c.args.more (c.args.place + 1) _ c.args.starts.now.items c.deref_mut.result.now c.shift_each.new.starts c.deref_mut.ensures.value (omega arith) (omega arith) c.shift_each.ensures
