-- The counts in the replies.
use Rattle.std.proofs.Common.{◌≡◌, ℕ, ◌-◌, ◌<◌, ◌≤◌, ◌/◌, ◌&&◌, true, false, nat_lt, nat_eq, cond, inl, inr, refl, sym, ap, ◌∙◌, arith, lt-ltb, eqb-true}
use Rattle.std.specs.Ordering.{nat_cmp}
use Rattle.std.proofs.lemmas.Bool.{cases_Bool}
use Rattle.moc_parts.specs.Commands.{parts_met}
use Rattle.std.specs.FinSet as set
use Rattle.moc_lists.specs.RangeList.{NumberSet}
use Rattle.moc_lists.specs.Lemmas.Members.{same_members}
use Rattle.moc_ranges.specs.Lemmas.Members.{contains-pixels, contains-part_of}
use Rattle.moc_ranges.specs.Operations.{pixels, base_pixel_size, IsWithin, meets, part_of}
use Rattle.moc_ranges.specs.Cells.{degrade}
use Rattle.moc_lists.specs.Lemmas.Sizes.{len_parts}
use Rattle.moc_parts.proofs.Members.{has-intersection, and_true, both, same_test}
use Rattle.moc_parts.proofs.DegradingParts.{contained_in_degrade}

-- a set is a subset of its degraded set
pub in_degrade : (a : NumberSet) (order : ℕ) → IsWithin a pixels → (q : ℕ) → set.contains a q ≡ true → set.contains (degrade a order) q ≡ true
in_degrade a order w q h = let in_q = sym (contains-pixels q) ∙ w.each q h in contained_in_degrade a order q q in_q in_q h refl

common_degrade : (a : NumberSet) (order : ℕ) → IsWithin a pixels → set.intersection (degrade a order) a ≡ a
common_degrade a order w = same_members _ _ (λ q. has-intersection (degrade a order) a q ∙ same_test _ _ (λ h. (and_true (set.contains (degrade a order) q) (set.contains a q) h).1) (λ h. both (in_degrade a order w q h) h))

pub degrade_more : (a : NumberSet) (order : ℕ) → IsWithin a pixels → set.len a ≤ set.len (degrade a order)
degrade_more a order w =
    let e : set.len (set.intersection (degrade a order) a) ≡ set.len a = ap set.len (common_degrade a order w) in
    let parts = len_parts (degrade a order) a in omega (arith, e, parts)

pub degrade_added : (a : NumberSet) (order : ℕ) → IsWithin a pixels → set.len (degrade a order) - set.len a ≡ set.len (set.difference (degrade a order) a)
degrade_added a order w =
    let e : set.len (set.intersection (degrade a order) a) ≡ set.len a = ap set.len (common_degrade a order w) in
    let parts = len_parts (degrade a order) a in omega (arith, e, parts)

pub meets_some_common : (a s : NumberSet) (n : ℕ) → n ≡ set.len (set.intersection a s) → 0 < n → meets a s ≡ true
unfolding meets
meets_some_common a s n e l = ap (λ m. nat_lt 0 m) (sym e) ∙ lt-ltb 0 n l

pub meets_no_common : (a s : NumberSet) (n : ℕ) → n ≡ set.len (set.intersection a s) → n ≤ 0 → meets a s ≡ false
unfolding meets
meets_no_common a s n e l = let z : n ≡ 0 = omega arith in ap (λ m. nat_lt 0 m) (sym e ∙ z)

-- the parts in which a set has pixels, by the tests of the program
pub parts_met_empty : (a : NumberSet) (b : ℕ) → a ≡ set.empty → parts_met a b ≡ nat_eq b 0
parts_met_empty a b e = ap (λ (n : ℕ). cond (nat_eq n 0) (nat_eq b 0) (nat_lt 0 (set.len (part_of a b)))) (ap set.len e ∙ set.len-empty nat_cmp)

pub parts_met_some : (a : NumberSet) (b : ℕ) → (a ≡ set.empty → ⊥) → parts_met a b ≡ nat_lt 0 (set.len (part_of a b))
parts_met_some a b not_empty = elim (cases_Bool (nat_eq (set.len a) 0)) [
  | inl t ↦ absurd (not_empty (set.empty_of_len a (eqb-true (set.len a) 0 t)))
  | inr f ↦ ap (λ t. cond t (nat_eq b 0) (nat_lt 0 (set.len (part_of a b)))) f
]

-- a set has no pixel in a part outside `parts_met`
pub no_pixels_unless_met : (a : NumberSet) (b : ℕ) → parts_met a b ≡ false → nat_lt 0 (set.len (part_of a b)) ≡ false
no_pixels_unless_met a b none = elim (cases_Bool (nat_eq (set.len a) 0)) [
  | inl t ↦
      let empty : part_of a b ≡ set.empty = same_members _ _ (λ q. contains-part_of a b q
      ∙ ap (λ s. set.contains s q && nat_eq (q / base_pixel_size) b) (set.empty_of_len a (eqb-true (set.len a) 0 t))
      ∙ ap (λ x. x && nat_eq (q / base_pixel_size) b) (set.contains-empty nat_cmp q) ∙ sym (set.contains-empty nat_cmp q)) in
      ap (λ s. nat_lt 0 (set.len s)) empty ∙ ap (λ n. nat_lt 0 n) (set.len-empty nat_cmp)
  | inr f ↦ sym (ap (λ t. cond t (nat_eq b 0) (nat_lt 0 (set.len (part_of a b)))) f) ∙ none
]
