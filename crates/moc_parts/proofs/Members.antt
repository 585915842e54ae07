-- Membership in the results of set operations.
use Rattle.std.proofs.Common.{◌≡◌, ℕ, ◌/◌, Bool, true, false, not, ◌&&◌, ◌||◌, List, [], ◌∷◌, ◌⊎◌, inl, inr, nat_lt, refl, sym, ap, ◌∙◌, arith, eq-eqb, eqb-true}
use Rattle.std.specs.Cmp.{nat_cmp_total, unsigned_tied}
use Rattle.std.specs.Ordering.{nat_cmp, eq_by_cmp}
use Rattle.std.specs.List.{list_any}
use Rattle.std.specs.FinSet as set
use Rattle.std.proofs.lemmas.Bool.{cases_lt, lt-ltb}
use Rattle.moc_lists.specs.RangeList.{NumberSet}
use Rattle.moc_lists.specs.Lemmas.Members.{same_members}
use Rattle.moc_ranges.specs.Lemmas.Members.{contains-part_of}
use Rattle.moc_ranges.specs.Operations.{base_pixel_size, part_of, meets}

pub has-union : (a b : NumberSet) (q : ℕ) → set.contains (set.union a b) q ≡ (set.contains a q || set.contains b q)
has-union a b q = set.contains-union nat_cmp_total a b q

pub has-intersection : (a b : NumberSet) (q : ℕ) → set.contains (set.intersection a b) q ≡ (set.contains a q && set.contains b q)
has-intersection a b q = set.contains-intersection nat_cmp_total a b q

pub has-difference : (a b : NumberSet) (q : ℕ) → set.contains (set.difference a b) q ≡ (set.contains a q && not (set.contains b q))
has-difference a b q = set.contains-difference nat_cmp_total a b q

pub has-empty : (q : ℕ) → set.contains {R = nat_cmp} set.empty q ≡ false
has-empty q = set.contains-empty nat_cmp q

pub absurd_bool : {X : Type 0} (b : Bool) → b ≡ true → b ≡ false → X
absurd_bool b t f = absurd (cc)

pub and_true : (x y : Bool) → (x && y) ≡ true → (x ≡ true) × (y ≡ true)
and_true true true h = (refl, refl)
and_true true false h = absurd (cc)
and_true false y h = absurd (cc)

pub both : {x y : Bool} → x ≡ true → y ≡ true → (x && y) ≡ true
both e f = (λ i. e i && f i)

pub or_true : (x y : Bool) → (x || y) ≡ true → (x ≡ true) ⊎ (y ≡ true)
or_true true y h = inl refl
or_true false y h = inr h

pub or_left : (x y : Bool) → x ≡ true → (x || y) ≡ true
or_left true y e = refl
or_left false y e = absurd (cc)

pub or_right : (x y : Bool) → y ≡ true → (x || y) ≡ true
or_right true y e = refl
or_right false y e = e

pub not_true_false : (b : Bool) → (b ≡ true → ⊥) → b ≡ false
not_true_false true h = absurd (h refl)
not_true_false false h = refl

-- two tests that imply each other are equal
pub same_test : (x y : Bool) → (x ≡ true → y ≡ true) → (y ≡ true → x ≡ true) → x ≡ y
same_test true y f g = sym (f refl)
same_test false true f g = g refl
same_test false false f g = refl

-- a set that is not empty has a member
pub some_member : (a : NumberSet) → nat_lt 0 (set.len a) ≡ true → (p : ℕ) × (set.contains a p ≡ true)
some_member a h = go (set.items a) refl
  where
    go : (xs : List ℕ) → set.items a ≡ xs → (p : ℕ) × (set.contains a p ≡ true)
    go [] e = absurd_bool (nat_lt 0 (set.len a)) h (ap (λ (s : NumberSet). nat_lt 0 (set.len s)) (same_members a set.empty (λ q. set.contains-items a q ∙ ap (list_any (eq_by_cmp nat_cmp q)) e ∙ sym (has-empty q))) ∙ ap (λ n. nat_lt 0 n) (set.len-empty nat_cmp))
    go (x ∷ xs) e = (x, set.contains-items a x ∙ ap (list_any (eq_by_cmp nat_cmp x)) e ∙ or_left _ _ (unsigned_tied x x ∙ eq-eqb x x refl))

-- a set with a member is not empty
pub is_some : (a : NumberSet) (p : ℕ) → set.contains a p ≡ true → nat_lt 0 (set.len a) ≡ true
is_some a p h = elim (cases_lt 0 (set.len a)) [
  | inl lt ↦ lt-ltb 0 (set.len a) lt
  | inr none ↦ absurd_bool (set.contains a p) h (ap (λ (s : NumberSet). set.contains s p) (set.empty_of_len a (omega arith)) ∙ has-empty p)
]

-- two sets that meet have a pixel in common
pub meets_at : (a b : NumberSet) → meets a b ≡ true → (p : ℕ) × (set.contains a p ≡ true) × (set.contains b p ≡ true)
unfolding meets
meets_at a b h =
    let m = some_member (set.intersection a b) h in
    let k = and_true _ _ (sym (has-intersection a b m.0) ∙ m.1) in
    (m.0, k.0, k.1)

pub in_part : (a : NumberSet) (b p : ℕ) → set.contains a p ≡ true → p / base_pixel_size ≡ b → set.contains (part_of a b) p ≡ true
in_part a b p h e = contains-part_of a b p ∙ both h (eq-eqb (p / base_pixel_size) b e)

pub of_part : (a : NumberSet) (b p : ℕ) → set.contains (part_of a b) p ≡ true → (set.contains a p ≡ true) × (p / base_pixel_size ≡ b)
of_part a b p h = let k = and_true _ _ (sym (contains-part_of a b p) ∙ h) in (k.0, eqb-true (p / base_pixel_size) b k.1)
