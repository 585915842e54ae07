use Rattle.std.proofs.Common.{arith}
use Rattle.moc_blocks.proofs.Blocking.{IsNormal-suffix}
use Rattle.moc_blocks.proofs.Passing.{normal_first_ranges, skip_in_ranges, skip_in_block, skip_bounded}
use Rattle.moc_blocks.proofs.runs.skip_ranges.Goals as goal

pub skip_runs-here-requires-clause-normal : goal.skip_runs-here-requires-clause-normal
skip_runs-here-requires-clause-normal c = normal_first_ranges c.args.current.ranges.now c.args.current.cursor.blocks.now c.args.current.cursor.nodes.now c.requires.normal

pub returns-in_default : goal.returns-in_default
returns-in_default c = skip_in_ranges c.args.range c.args.current.ranges.now c.skip_runs-here.result.rest.now c.args.current.cursor.blocks.now c.args.current.cursor.nodes.now _ c.skip_runs-here.ensures

pub skip_after_block-after-requires-clause-normal : goal.skip_after_block-after-requires-clause-normal
skip_after_block-after-requires-clause-normal c = IsNormal-suffix c.args.current.ranges.now _ c.requires.normal

pub overflow_add-result : goal.overflow_add-result
overflow_add-result c =
    let passed = skip_in_block c.args.range c.args.current.ranges.now _ c.args.current.cursor.blocks.now c.args.current.cursor.nodes.now _ _ _ c.skip_runs-here.ensures c.in-empty.len_below c.skip_after_block-after.ensures in
    omega (arith, skip_bounded c.args.range _ _ _ c.requires.normal passed)

pub returns : goal.returns
returns c =
    skip_in_block c.args.range c.args.current.ranges.now _ c.args.current.cursor.blocks.now c.args.current.cursor.nodes.now _ _ _ c.skip_runs-here.ensures c.in-empty.len_below c.skip_after_block-after.ensures

pub returns-then-is_empty : goal.returns-then-is_empty
returns-then-is_empty c = skip_in_ranges c.args.range c.args.current.ranges.now c.skip_runs-here.result.rest.now c.args.current.cursor.blocks.now c.args.current.cursor.nodes.now _ c.skip_runs-here.ensures
