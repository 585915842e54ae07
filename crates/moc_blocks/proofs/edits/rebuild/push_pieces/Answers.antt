use Rattle.moc_blocks.proofs.Blocking.{IsNormal-prefix, IsNormal-suffix}
use Rattle.moc_blocks.proofs.edits.rebuild.push_pieces.Goals as goal

pub new-requires-clause-normal : goal.new-requires-clause-normal
new-requires-clause-normal c = IsNormal-prefix c.args.cut.first.items c.args.cut.second.items c.requires.normal

pub new-requires-then-not-is_empty-clause-normal : goal.new-requires-then-not-is_empty-clause-normal
new-requires-then-not-is_empty-clause-normal c = IsNormal-suffix c.args.cut.first.items c.args.cut.second.items c.requires.normal
