use Rattle.std.proofs.Common.{length, ap, ◌∙◌}
use Rattle.moc_parts.proofs.Twelve.{parts_length}
use Rattle.moc_parts.proofs.map.Map.coverage.Goals as goal

pub lists-requires : goal.lists-requires
lists-requires c = ap length c.deref.ensures.value ∙ parts_length c.self.inside.parts.items c.self.invariant
