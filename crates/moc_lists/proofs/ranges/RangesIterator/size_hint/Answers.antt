use Rattle.std.proofs.Common.{arith}
use Rattle.moc_blocks.specs.Private.Blocks.{rest_of}
use Rattle.moc_blocks.proofs.Blocking.{rest_blocks, rest_nodes, length-rest, range_count_bounded}
use Rattle.moc_lists.proofs.ranges.RangesIterator.size_hint.Goals as goal

pub count_in_blocks-requires : goal.count_in_blocks-requires
count_in_blocks-requires c = rest_blocks c.self.inside.ranges.now c.self.inside.cursor.blocks.now c.self.inside.cursor.nodes.now c.self.invariant

pub count_in_nodes-requires : goal.count_in_nodes-requires
count_in_nodes-requires c = rest_nodes c.self.inside.ranges.now c.self.inside.cursor.blocks.now c.self.inside.cursor.nodes.now c.self.invariant

pub overflow_add-cursor : goal.overflow_add-cursor
overflow_add-cursor c =
    omega (arith, range_count_bounded (rest_of c.self.inside.ranges.now c.self.inside.cursor.blocks.now c.self.inside.cursor.nodes.now) c.self.invariant, length-rest c.self.inside.ranges.now c.self.inside.cursor.blocks.now c.self.inside.cursor.nodes.now, c.count_in_blocks.ensures, c.count_in_nodes.ensures)

pub overflow_add-count : goal.overflow_add-count
overflow_add-count c =
    omega (arith, range_count_bounded (rest_of c.self.inside.ranges.now c.self.inside.cursor.blocks.now c.self.inside.cursor.nodes.now) c.self.invariant, length-rest c.self.inside.ranges.now c.self.inside.cursor.blocks.now c.self.inside.cursor.nodes.now, c.count_in_blocks.ensures, c.count_in_nodes.ensures)
