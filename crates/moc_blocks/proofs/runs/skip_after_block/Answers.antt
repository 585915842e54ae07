use Rattle.std.proofs.Common.{◌-◌, length, take, drop, arith, subst, sym}
use Rattle.moc_blocks.specs.RangeList.{IsNormal}
use Rattle.moc_blocks.proofs.Blocking.{block_split, IsNormal-prefix}
use Rattle.moc_blocks.proofs.Passing.{skip_across_blocks, skip_normal, skip_bounded, all_ranges-ranges}
use Rattle.moc_blocks.proofs.runs.skip_after_block.Goals as goal

pub skip_runs-there-requires-clause-normal : goal.skip_runs-there-requires-clause-normal
skip_runs-there-requires-clause-normal c =
    let cursor = c.skip_blocks-common.result.cursor in
    let split = block_split cursor.blocks.now cursor.nodes.now c.block-item.result c.in-len1-up.len_at_least c.block-item.is in
    let whole = IsNormal-prefix c.block-item.result _ (subst IsNormal split (skip_normal c.args.range _ _ _ c.requires.normal c.skip_blocks-common.ensures)) in
    subst IsNormal (sym (all_ranges-ranges c.ranges-2.result.now)) (subst IsNormal (sym c.ranges-2.ensures.value) whole)

pub overflow_add-result : goal.overflow_add-result
overflow_add-result c =
    let cursor = c.skip_blocks-common.result.cursor in
    let split = block_split cursor.blocks.now cursor.nodes.now c.block-item.result c.in-len1-up.len_at_least c.block-item.is in
    let all = skip_across_blocks c.args.range _ c.ranges-2.result.now c.skip_runs-there.result.rest.now cursor.blocks.now (take (length cursor.blocks.now - 1) (drop 1 cursor.blocks.now)) cursor.nodes.now _ _ c.skip_blocks-common.ensures (rw c.ranges-2.ensures.value split) c.skip_runs-there.ensures in
    omega (arith, skip_bounded c.args.range _ _ _ c.requires.normal all)

pub returns : goal.returns
returns c =
    let cursor = c.skip_blocks-common.result.cursor in
    let split = block_split cursor.blocks.now cursor.nodes.now c.block-item.result c.in-len1-up.len_at_least c.block-item.is in
    skip_across_blocks c.args.range _ c.ranges-2.result.now c.skip_runs-there.result.rest.now cursor.blocks.now (take (length cursor.blocks.now - 1) (drop 1 cursor.blocks.now)) cursor.nodes.now _ _ c.skip_blocks-common.ensures (rw c.ranges-2.ensures.value split) c.skip_runs-there.ensures
