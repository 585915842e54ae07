use Rattle.moc_blocks.proofs.Editing.{set_inserted}
use Rattle.moc_lists.proofs.nodes.replace_with_two.Goals as goal

pub returns-clause-new : goal.returns-clause-new
returns-clause-new c = set_inserted c.args.nodes.now.items _ c.args.place c.args.first c.args.second c.requires c.in_ok-insert.ensures.items
