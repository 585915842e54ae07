use Rattle.std.specs.Option.{option_copied}
use Rattle.moc_parts.specs.Prepared.{content_or_empty}
use Rattle.moc_parts.proofs.Drafting.{IsFilled}
use Rattle.moc_parts.proofs.map.lists.Given as goal

abbrev pub invariant-loop-b : goal.invariant-loop-b
invariant-loop-b l = IsFilled (λ part. content_or_empty (option_copied part)) l.parts l.lists l.b
