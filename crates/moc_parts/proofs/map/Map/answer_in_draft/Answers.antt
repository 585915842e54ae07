use Rattle.std.proofs.Common.{length, ap, ◌∙◌}
use Rattle.moc_parts.proofs.Twelve.{parts_length}
use Rattle.moc_parts.proofs.map.Map.answer_in_draft.Goals as goal

pub lists-lists-requires : goal.lists-lists-requires
lists-lists-requires c = ap length c.deref.ensures.value ∙ parts_length c.self.inside.parts.items c.self.invariant

pub replace_lists-requires-clause-twelve : goal.replace_lists-requires-clause-twelve
replace_lists-requires-clause-twelve c = ap length c.deref_mut.ensures.value ∙ parts_length c.self.inside.parts.items c.self.invariant
