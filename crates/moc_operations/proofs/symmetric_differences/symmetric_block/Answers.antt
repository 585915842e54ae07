use Rattle.std.proofs.Common.{take, arith}
use Rattle.std.proofs.lemmas.List.{length-take-le}
use Rattle.moc_blocks.specs.Private.Built.{ranges_of}
use Rattle.moc_operations.proofs.Bounds.{HasFront, crossed_next, kernel_crossing, kernel_bounds_ascend}
use Rattle.moc_operations.proofs.symmetric_differences.symmetric_block.Goals as goal

pub push_pairs-requires : goal.push_pairs-requires
push_pairs-requires c =
    let s = c.requires.started.1.1 in
    let hx : HasFront c.args.xs.now c.in-Some.first.ranges.now c.first_ranges.result.now c.in-Some.first.tail = record { parts = c.in-Some.ensures.0; leads = c.first_ranges.ensures.part; some = c.first_ranges.ensures.some c.in-Some.ensures.1 } in
    let hy : HasFront c.args.ys.now c.in-Some-next_block.second.ranges.now c.first_ranges-2.result.now c.in-Some-next_block.second.tail = record { parts = c.in-Some-next_block.ensures.0; leads = c.first_ranges-2.ensures.part; some = c.first_ranges-2.ensures.some c.in-Some-next_block.ensures.1 } in
    kernel_bounds_ascend (ranges_of c.args.built.now) _ _ (take c.symmetric_bounds-crossed.result.written c.symmetric_bounds-crossed.new.out) _ _ (kernel_crossing _ _ _ _ _ _ _ _ _ _ _ _ _ _ _ _ _ s hx hy c.symmetric_bounds-crossed.ensures.crossed)

pub returns-clause-on : goal.returns-clause-on
returns-clause-on c = λ wx wy s.
    let hx : HasFront c.args.xs.now c.in-Some.first.ranges.now c.first_ranges.result.now c.in-Some.first.tail = record { parts = c.in-Some.ensures.0; leads = c.first_ranges.ensures.part; some = c.first_ranges.ensures.some c.in-Some.ensures.1 } in
    let hy : HasFront c.args.ys.now c.in-Some-next_block.second.ranges.now c.first_ranges-2.result.now c.in-Some-next_block.second.tail = record { parts = c.in-Some-next_block.ensures.0; leads = c.first_ranges-2.ensures.part; some = c.first_ranges-2.ensures.some c.in-Some-next_block.ensures.1 } in
    let e = c.symmetric_bounds-crossed.ensures in
    crossed_next _ _ _ _ _ _ _ _ e.even.0 _ _ _ _ _ _ _ _ _ _ wx wy _ s hx hy e.crossed e.ended e.first e.second
    (omega (arith, e.even.1, length-take-le c.symmetric_bounds-crossed.result.written c.symmetric_bounds-crossed.new.out e.written)) c.in_ok-opened.ensures
    c.resume_after.ensures c.resume_after-2.ensures
