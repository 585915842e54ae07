use Rattle.moc_parts.specs.Prepared.{is_given, part_if}
use Rattle.moc_parts.proofs.Drafting.{AreDoneBelow}
use Rattle.moc_parts.proofs.draft.Draft.into_lists.Given as goal

abbrev pub invariant-loop-part : goal.invariant-loop-part
invariant-loop-part l = AreDoneBelow l.initial.lists l.lists (λ k. part_if (is_given l.given k) l.fn.self.set k) l.part-index
