use Rattle.moc_blocks.proofs.Editing.{set_split}
use Rattle.moc_lists.proofs.nodes.replace_with_one.Goals as goal

pub returns : goal.returns
returns c = set_split c.args.nodes.now.items c.args.place c.args.first c.requires
