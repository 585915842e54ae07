use Rattle.moc_parts.specs.Prepared.{given_sets}
use Rattle.moc_parts.proofs.Drafting.{IsFilled}
use Rattle.moc_parts.proofs.draft.Draft.from_lists.Given as goal

abbrev pub invariant-loop-b : goal.invariant-loop-b
invariant-loop-b l = IsFilled (λ x. x.now) (given_sets l.lists) l.before l.b
