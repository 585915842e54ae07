-- Membership in sets: lemmas on the definitions, for proofs.
use Rattle.std.specs.Prelude.{◌≡◌, ℕ, Bool, true, not, ◌&&◌, ◌||◌}
use Rattle.std.specs.FinSet as set
use Rattle.std.specs.Cmp.{nat_cmp_total}
use Rattle.std.proofs.Common.{◌∙◌, false, refl, sym}
use Rattle.moc_blocks.specs.RangeList.{NumberSet}
use Rattle.moc_operations.specs.Operations.{symmetric}

-- the members of a symmetric difference
pub contains-symmetric : (a b : NumberSet) (q : ℕ)
    → set.contains (symmetric a b) q
    ≡ ((set.contains a q && not (set.contains b q)) || (set.contains b q && not (set.contains a q)))
unfolding symmetric
contains-symmetric a b q =
    set.contains-union nat_cmp_total (set.difference a b) (set.difference b a) q
    ∙ (λ i. set.contains-difference nat_cmp_total a b q i || set.contains-difference nat_cmp_total b a q i)

-- two Booleans are equal if each implies the other
pub same_truth : (x y : Bool) → (x ≡ true → y ≡ true) → (y ≡ true → x ≡ true) → x ≡ y
same_truth true y there back = sym (there refl)
same_truth false true there back = back refl
same_truth false false there back = refl
