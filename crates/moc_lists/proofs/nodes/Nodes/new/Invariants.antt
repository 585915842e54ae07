use Rattle.std.proofs.Common.{◌≡◌, length, take}
use Rattle.moc_blocks.specs.Blocks.{concat}
use Rattle.moc_blocks.specs.Private.Blocks.{starts_from, width_of}
use Rattle.moc_lists.proofs.nodes.Nodes.new.Given as goal

abbrev pub invariant-loop-node : goal.invariant-loop-node
invariant-loop-node l = record {
  placed : l.starts.items ≡ starts_from 0 (take l.node-index l.fn.nodes.items);
  many : l.blocks ≡ length (concat (take l.node-index l.fn.nodes.items));
  measured : l.size ≡ width_of (concat (concat (take l.node-index l.fn.nodes.items)));
  counted : l.count ≡ length (concat (concat (take l.node-index l.fn.nodes.items)));
}
