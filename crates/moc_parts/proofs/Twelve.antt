-- The twelve parts of a set as a list, and properties of the first n parts.
use Rattle.std.proofs.Common.{◌≡◌, ℕ, zero, suc, ◌+◌, ◌/◌, ◌<◌, Bool, true, false, ◌&&◌, ◌||◌, List, [], ◌∷◌, ◌++◌, length, get_or, nat_lt, nat_eq, inl, inr, refl, sym, ap, subst, ◌∙◌, arith, lt-ltb, length-append, get_or-append-add}
use Rattle.std.proofs.lemmas.Bool.{cases_lt}
use Rattle.std.proofs.lemmas.List.{ext_get_or, get_or_append_left}
use Rattle.std.proofs.lemmas.Bool.Decides.{nat_tests}
use Rattle.std.specs.Ordering.{nat_cmp}
use Rattle.std.specs.FinSet as set
use Rattle.moc_lists.specs.RangeList.{NumberSet}
use Rattle.moc_lists.specs.Lemmas.Members.{same_members, contains-kept}
use Rattle.moc_ranges.specs.Lemmas.Members.{contains-part_of, contains-pixels}
use Rattle.moc_ranges.specs.Lemmas.{in_base_pixels, is_pixel}
use Rattle.moc_ranges.specs.Operations.{pixels, base_pixel_size, part_of, IsWithin}
use Rattle.moc_parts.specs.Objects.{base_pixel}
use Rattle.moc_parts.specs.Parts.{union_of, parts_below, AreWithinParts}
use Rattle.moc_parts.proofs.Members.{has-union, has-empty, and_true, or_true, or_left, or_right, both, same_test, absurd_bool, in_part, of_part}
use Rattle.moc_parts.specs.Private.Drafts.{AreParts}

-- the pixels of a set in its first n parts
unfoldable pub first_parts : NumberSet → ℕ → NumberSet
first_parts a n = set.retain a (λ p. nat_lt (p / base_pixel_size) n)

pub parts_below-next : (a : NumberSet) (n : ℕ) → parts_below a (n + 1) ≡ parts_below a n ++ (part_of a n ∷ [])
unfolding parts_below
parts_below-next a n = let e : n + 1 ≡ suc n = omega arith in ap (λ m. parts_below a m) e

pub parts_below-none : (a : NumberSet) → parts_below a 0 ≡ []
unfolding parts_below
parts_below-none a = refl

pub length-parts_below : (a : NumberSet) (n : ℕ) → length (parts_below a n) ≡ n
unfolding parts_below
length-parts_below a zero = refl
length-parts_below a (suc n) = length-append (parts_below a n) (part_of a n ∷ []) ∙ ap (λ m. m + 1) (length-parts_below a n) ∙ omega arith

pub get-parts_below : (a : NumberSet) (n b : ℕ) (d : NumberSet) → b < n → get_or (parts_below a n) b d ≡ part_of a b
unfolding parts_below
get-parts_below a zero b d l = absurd (omega arith)
get-parts_below a (suc n) b d l = elim (cases_lt b n) [
  | inl lt ↦ get_or_append_left (parts_below a n) (part_of a n ∷ []) d b (subst (λ m. b < m) (sym (length-parts_below a n)) lt) ∙ get-parts_below a n b d lt
  | inr ge ↦
      let is : b ≡ n = omega arith in
      let at : b ≡ length (parts_below a n) + 0 = is ∙ sym (length-parts_below a n) ∙ omega arith in
      ap (λ m. get_or (parts_below a n ++ (part_of a n ∷ [])) m d) at ∙ get_or-append-add (parts_below a n) (part_of a n ∷ []) 0 d ∙ ap (λ m. part_of a m) (sym is)
]

pub has-first_parts : (a : NumberSet) (n q : ℕ) → set.contains (first_parts a n) q ≡ (set.contains a q && nat_lt (q / base_pixel_size) n)
unfolding first_parts
has-first_parts a n q = contains-kept a (λ p. nat_lt (p / base_pixel_size) n) q

pub or_with_false : (x : Bool) → (x || false) ≡ x
or_with_false true = refl
or_with_false false = refl

or_shift : (x y z : Bool) → (x || (y || z)) ≡ ((x || y) || z)
or_shift true y z = refl
or_shift false y z = refl

pub has-union_of_append : (xs : List NumberSet) (y : NumberSet) (q : ℕ) → set.contains (union_of (xs ++ (y ∷ []))) q ≡ (set.contains (union_of xs) q || set.contains y q)
has-union_of_append [] y q = has-union y set.empty q ∙ ap (λ t. set.contains y q || t) (has-empty q) ∙ or_with_false (set.contains y q) ∙ sym (ap (λ t. t || set.contains y q) (has-empty q))
has-union_of_append (x ∷ xs) y q = has-union x (union_of (xs ++ (y ∷ []))) q ∙ ap (λ t. set.contains x q || t) (has-union_of_append xs y q)
    ∙ or_shift (set.contains x q) (set.contains (union_of xs) q) (set.contains y q) ∙ ap (λ t. t || set.contains y q) (sym (has-union x (union_of xs) q))

next_test : (x : Bool) (r n : ℕ) → ((x && nat_lt r n) || (x && nat_eq r n)) ≡ (x && nat_lt r (n + 1))
next_test true r n = grind (arith, nat_tests)
next_test false r n = refl

-- one more part
pub first_parts-next : (a : NumberSet) (n : ℕ) → set.union (first_parts a n) (part_of a n) ≡ first_parts a (n + 1)
first_parts-next a n = same_members _ _ (λ q.
    has-union (first_parts a n) (part_of a n) q ∙ (λ i. has-first_parts a n q i || contains-part_of a n q i)
    ∙ next_test (set.contains a q) (q / base_pixel_size) n ∙ sym (has-first_parts a (n + 1) q))

no_part_below_zero : (x : Bool) (r : ℕ) → (x && nat_lt r 0) ≡ false
no_part_below_zero true r = grind (arith, nat_tests)
no_part_below_zero false r = refl

pub first_parts-none : (a : NumberSet) → first_parts a 0 ≡ set.empty
first_parts-none a = same_members _ _ (λ q. has-first_parts a 0 q ∙ no_part_below_zero (set.contains a q) (q / base_pixel_size) ∙ sym (has-empty q))

pub union_of-parts_below : (a : NumberSet) (n : ℕ) → union_of (parts_below a n) ≡ first_parts a n
union_of-parts_below a zero = ap union_of (parts_below-none a) ∙ sym (first_parts-none a)
union_of-parts_below a (suc n) =
    let e : suc n ≡ n + 1 = omega arith in
    same_members _ _ (λ q.
    ap (λ m. set.contains (union_of (parts_below a m)) q) e
    ∙ ap (λ xs. set.contains (union_of xs) q) (parts_below-next a n)
    ∙ has-union_of_append (parts_below a n) (part_of a n) q
    ∙ ap (λ s. set.contains s q || set.contains (part_of a n) q) (union_of-parts_below a n)
    ∙ sym (has-union (first_parts a n) (part_of a n) q)
    ∙ ap (λ s. set.contains s q) (first_parts-next a n)
    ∙ ap (λ m. set.contains (first_parts a m) q) (sym e))

pub within_base : (a : NumberSet) → IsWithin a pixels → (p : ℕ) → set.contains a p ≡ true → p / base_pixel_size < 12
within_base a w p h = in_base_pixels p (sym (contains-pixels p) ∙ w.each p h)

-- the first twelve parts are the whole set
pub first_parts-all : (a : NumberSet) → IsWithin a pixels → first_parts a 12 ≡ a
first_parts-all a w = same_members _ _ (λ q. same_test _ _
    (λ h. (and_true _ _ (sym (has-first_parts a 12 q) ∙ h)).0)
    (λ h. has-first_parts a 12 q ∙ both h (lt-ltb (q / base_pixel_size) 12 (within_base a w q h))))

pub union_of-parts : (a : NumberSet) → IsWithin a pixels → union_of (parts_below a 12) ≡ a
union_of-parts a w = union_of-parts_below a 12 ∙ first_parts-all a w

-- the list of the twelve parts satisfies `AreParts`
pub AreParts-parts : (a : NumberSet) → IsWithin a pixels → AreParts (parts_below a 12)
AreParts-parts a w = ap (λ s. parts_below s 12) (sym (union_of-parts a w))

-- the union of parts is within the sky
pub parts_within : (sets : List NumberSet) → AreParts sets → IsWithin (union_of sets) pixels
parts_within sets e = record {
  each = λ q h.
      let k : set.contains (first_parts (union_of sets) 12) q ≡ true = ap (λ s. set.contains s q) (sym (union_of-parts_below (union_of sets) 12)) ∙ ap (λ xs. set.contains (union_of xs) q) (sym e) ∙ h in
      let m = and_true _ _ (sym (has-first_parts (union_of sets) 12 q) ∙ k) in
      contains-pixels q ∙ is_pixel q (ltb_lt (q / base_pixel_size) m.1);
}
  where
    ltb_lt : (n : ℕ) → nat_lt n 12 ≡ true → n < 12
    ltb_lt n h = grind (arith, nat_tests)

pub parts_length : (sets : List NumberSet) → AreParts sets → length sets ≡ 12
parts_length sets e = ap length e ∙ length-parts_below (union_of sets) 12

pub get-parts : (sets : List NumberSet) (b : ℕ) (d : NumberSet) → AreParts sets → b < 12 → get_or sets b d ≡ part_of (union_of sets) b
get-parts sets b d e l = ap (λ xs. get_or xs b d) e ∙ get-parts_below (union_of sets) 12 b d l

pub parts_below_are_parts : (sets : List NumberSet) (a : NumberSet) → sets ≡ parts_below a 12 → IsWithin a pixels → AreParts sets
parts_below_are_parts sets a e w = subst AreParts (sym e) (AreParts-parts a w)

pub union_of_parts_below : (sets : List NumberSet) (a : NumberSet) → sets ≡ parts_below a 12 → IsWithin a pixels → union_of sets ≡ a
union_of_parts_below sets a e w = ap union_of e ∙ union_of-parts a w

-- one more list
pub parts_below_next : (sets : List NumberSet) (a : NumberSet) (n : ℕ) → sets ≡ parts_below a n → (part : NumberSet) → part ≡ part_of a n → sets ++ (part ∷ []) ≡ parts_below a (n + 1)
parts_below_next sets a n e part p = (λ i. e i ++ (p i ∷ [])) ∙ sym (parts_below-next a n)

-- ---- sets that are each within their own base pixel

-- a pixel of the union is in one of the sets
one_of : (sets : List NumberSet) (q : ℕ) → set.contains (union_of sets) q ≡ true → (k : ℕ) × (k < length sets) × (set.contains (get_or sets k set.empty) q ≡ true)
one_of [] q h = absurd_bool (set.contains {R = nat_cmp} set.empty q) h (has-empty q)
one_of (a ∷ sets) q h = elim (or_true (set.contains a q) (set.contains (union_of sets) q) (sym (has-union a (union_of sets) q) ∙ h)) [
  | inl here ↦ (0, omega arith, here)
  | inr later ↦ let m = one_of sets q later in (suc m.0, omega (arith, m.1), m.2)
]

in_union : (sets : List NumberSet) (k q : ℕ) → k < length sets → set.contains (get_or sets k set.empty) q ≡ true → set.contains (union_of sets) q ≡ true
in_union [] k q l h = absurd (omega arith)
in_union (a ∷ sets) zero q l h = has-union a (union_of sets) q ∙ or_left (set.contains a q) (set.contains (union_of sets) q) h
in_union (a ∷ sets) (suc k) q l h = has-union a (union_of sets) q ∙ or_right (set.contains a q) (set.contains (union_of sets) q) (in_union sets k q (omega arith) h)

single_part : (sets : List NumberSet) → AreWithinParts sets → (b : ℕ) → b < 12 → get_or sets b set.empty ≡ part_of (union_of sets) b
single_part sets lie b l = same_members _ _ (λ q. same_test _ _
    (λ h. in_part (union_of sets) b q (in_union sets b q (subst (λ n. b < n) (sym lie.twelve) l) h) (at b q l h))
    (λ h.
    let k = of_part (union_of sets) b q h in
    let m = one_of sets q k.0 in
    let same : m.0 ≡ b = sym (at m.0 q (subst (λ n. m.0 < n) lie.twelve m.1) m.2) ∙ k.1 in
    ap (λ n. set.contains (get_or sets n set.empty) q) (sym same) ∙ m.2))
  where
    at : (n q : ℕ) → n < 12 → set.contains (get_or sets n set.empty) q ≡ true → q / base_pixel_size ≡ n
    at n q lt h = (of_part (get_or sets n set.empty) n q (ap (λ a. set.contains a q) (lie.own n lt) ∙ h)).1

-- the sets are the parts of their union
pub within_parts_are_parts : (sets : List NumberSet) → AreWithinParts sets → AreParts sets
within_parts_are_parts sets lie = ext_get_or set.empty sets (parts_below (union_of sets) 12)
    (lie.twelve ∙ sym (length-parts_below (union_of sets) 12))
    (λ b l. let lt : b < 12 = subst (λ n. b < n) lie.twelve l in single_part sets lie b lt ∙ sym (get-parts_below (union_of sets) 12 b set.empty lt))

-- a pixel is in the union if and only if it is in the set of its base pixel
pub contains_by_part : (sets : List NumberSet) → AreWithinParts sets → (p : ℕ) → base_pixel p < 12 → set.contains (union_of sets) p ≡ set.contains (get_or sets (base_pixel p) set.empty) p
unfolding base_pixel
contains_by_part sets lie p l =
    let whole = union_of sets in
    let b = p / base_pixel_size in
    sym (ap (λ a. set.contains a p) (single_part sets lie b l) ∙ contains-part_of whole b p ∙ ap (λ t. set.contains whole p && t) (same_number b) ∙ and_yes (set.contains whole p))
  where
    same_number : (n : ℕ) → nat_eq n n ≡ true
    same_number n = grind (arith, nat_tests)

    and_yes : (x : Bool) → (x && true) ≡ x
    and_yes true = refl
    and_yes false = refl

part_of_part : (a : NumberSet) (b : ℕ) → part_of (part_of a b) b ≡ part_of a b
part_of_part a b = same_members _ _ (λ q. contains-part_of (part_of a b) b q ∙ ap (λ t. t && nat_eq (q / base_pixel_size) b) (contains-part_of a b q) ∙ twice (set.contains a q) (nat_eq (q / base_pixel_size) b) ∙ sym (contains-part_of a b q))
  where
    twice : (x e : Bool) → ((x && e) && e) ≡ (x && e)
    twice true true = refl
    twice true false = refl
    twice false e = refl

-- the twelve parts of a set are each within their own base pixel
pub parts_below_within : (a : NumberSet) → IsWithin a pixels → AreWithinParts (parts_below a 12)
parts_below_within a w = record {
  twelve = length-parts_below a 12;
  own = λ b l. let at = get-parts_below a 12 b set.empty l in ap (λ s. part_of s b) at ∙ part_of_part a b ∙ sym at;
}
