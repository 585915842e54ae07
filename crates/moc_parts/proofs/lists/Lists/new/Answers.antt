use Rattle.std.proofs.Common.{ap, ◌∙◌}
use Rattle.moc_parts.specs.Private.Drafts.{twelve_lists}
use Rattle.moc_parts.proofs.OptionalLists.{twelve_lists-none}
use Rattle.moc_parts.proofs.lists.Lists.new.Goals as goal

pub returns : goal.returns
returns c = ap twelve_lists c.new.ensures.items ∙ twelve_lists-none
