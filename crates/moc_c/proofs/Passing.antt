-- One step of a walk over ranges.
use Rattle.std.proofs.Common.{◌≡◌, ◌<◌, ◌≤◌, [], ◌∷◌, ℕ, Bool, true, false, List, refl, sym, ap, ◌∙◌, arith, nat_le, nat_lt, ◌&&◌, ◌||◌}
use Rattle.std.proofs.lemmas.Bool.Decides.{nat_tests}
use Rattle.std.specs.FinSet as set
use Rattle.moc_lists.specs.RangeList.{NumberSet, BeginsAfter, IsNormal, set_of}
use Rattle.moc_lists.specs.Lemmas.Members.{contains-set_of, in_ranges}
use Rattle.moc_ranges.specs.Lemmas.Ranges.{in_first, not_before}
use Rattle.moc_c.specs.Private.Lookup.{BeginsFrom, IsRest, IsTrueOf}

and_false : (x : Bool) → (x && false) ≡ false
and_false true = refl
and_false false = refl

begins_from : (x : ℕ) (ranges : List (ℕ × ℕ)) → BeginsAfter x ranges → BeginsFrom x ranges
begins_from x [] after = tt
begins_from x (range ∷ ranges) after = omega arith

-- after the first range are the others
pub rest_after_range : (a : NumberSet) (passed f t : ℕ) (rest : List (ℕ × ℕ)) → IsRest a ((f, t) ∷ rest) passed → IsRest a rest t
rest_after_range a passed f t rest is = (
  is.0.3,
  begins_from t rest is.0.2,
  λ q behind.
      let low : passed ≤ f = is.1 in
      let some : f < t = is.0.0 in
      let ended : nat_lt q t ≡ false = grind (arith, nat_tests) in
      is.2 q (omega arith) ∙ ap (λ b. (nat_le f q && b) || in_ranges rest q) ended ∙ ap (λ b. b || in_ranges rest q) (and_false (nat_le f q)),
)

-- up to its end only the first range has pixels
pub next_number_of_rest : (a : NumberSet) (passed f t : ℕ) (rest : List (ℕ × ℕ)) → IsRest a ((f, t) ∷ rest) passed → IsTrueOf a (record { from = passed; start = f; end = t })
next_number_of_rest a passed f t rest is q low high =
    is.2 q low ∙ elim (nat_le f q) as (λ b. nat_le f q ≡ b → in_ranges ((f, t) ∷ rest) q ≡ b) [
      | true ↦ λ e. let le : f ≤ q = grind (arith, nat_tests) in in_first (f, t) rest q le high
      | false ↦ λ e. let lt : q < f = grind (arith, nat_tests) in not_before (f, t) rest is.0 q lt
    ] refl

begins_somewhere : (ranges : List (ℕ × ℕ)) → BeginsFrom 0 ranges
begins_somewhere [] = tt
begins_somewhere (range ∷ ranges) = omega arith

-- all ranges of a set
pub rest_from_start : (a : NumberSet) (ranges : List (ℕ × ℕ)) → IsNormal ranges → set_of ranges ≡ a → IsRest a ranges 0
rest_from_start a ranges normal is =
    (normal, begins_somewhere ranges, λ q low. ap (λ x. set.contains x q) (sym is) ∙ contains-set_of ranges q)
