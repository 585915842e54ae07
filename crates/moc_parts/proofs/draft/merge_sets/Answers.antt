use Rattle.std.proofs.Common.{sym}
use Rattle.moc_parts.proofs.Sums.{union-no_pixels, no_pixels-union}
use Rattle.moc_parts.proofs.draft.merge_sets.Goals as goal

pub returns-then-is_empty : goal.returns-then-is_empty
returns-then-is_empty c = sym (union-no_pixels c.args.a c.args.b (c.is_empty.ensures.empty.0 c.if-is_empty.true))

pub returns-then-is_empty-2 : goal.returns-then-is_empty-2
returns-then-is_empty-2 c = sym (no_pixels-union c.args.a c.args.b (c.is_empty-else-is_empty.ensures.empty.0 c.if-is_empty-2.true))
