use Rattle.std.proofs.Common.{List, ℕ, sym, subst, arith}
use Rattle.moc_ranges.specs.Private.Sorted.{IsSortedFrom}
use Rattle.moc_ranges.proofs.Sorting.{normal_sorted}
use Rattle.moc_ranges.proofs.builder.CoverageBuilder.merge_all.Goals as goal

pub build-requires : goal.build-requires
build-requires c =
    subst (λ (l : List (ℕ × ℕ)). IsSortedFrom 0 l) (sym c.deref.ensures.value) (normal_sorted 0 c.self.inside.ascending.items c.self.invariant.sorted (omega arith))
