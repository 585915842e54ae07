use Rattle.std.proofs.Common.{◌-◌, ◌+◌, arith}
use Rattle.moc_sphere.specs.Lemmas.{cell_size-positive}
use Rattle.moc_ranges.proofs.Widening.{masked_to_multiple, widened_within_sky}
use Rattle.moc_ranges.proofs.from_ranges.widen_range.Goals as goal

pub overflow_sub-mask : goal.overflow_sub-mask
overflow_sub-mask c = omega (arith, c.requires.size.is, cell_size-positive c.requires.size.order)

pub overflow_add-result : goal.overflow_add-result
overflow_add-result c =
    let low = masked_to_multiple c.args.size (c.args.to - 1) c.requires.size (omega arith) in
    let room = widened_within_sky c.args.size (c.args.to - 1) c.requires.size (omega (arith, c.requires.ascending, c.requires.within)) in
    omega arith

pub returns : goal.returns
returns c =
    let a = masked_to_multiple c.args.size c.args.from c.requires.size (omega arith) in
    let b = masked_to_multiple c.args.size (c.args.to - 1) c.requires.size (omega arith) in
    λ i. (a i, b i + c.args.size)
