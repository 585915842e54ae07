-- The union of sets that are each within their own base pixel.
use Rattle.std.proofs.Common.{◌≡◌, ◌≢◌, ℕ, zero, suc, ◌+◌, ◌*◌, ◌%◌, ◌<◌, ◌≤◌, ◌/◌, ◌&&◌, ◌||◌, Bool, true, false}
use Rattle.std.proofs.Common.{true≢false, List, [], ◌∷◌, length, refl, sym, ap, ◌∙◌, subst, inl, inr, arith}
use Rattle.std.proofs.Common.{Option, Some, None, get_or, add-zero, div-add-mod', eq-eqb, ne_eqb, lt-ltb}
use Rattle.std.proofs.Math.Nat.{mod-lt}
use Rattle.std.proofs.lemmas.Bool.{cases_lt, cases_Bool, ltb-true}
use Rattle.std.specs.Cmp.{nat_cmp_total}
use Rattle.std.specs.Ordering.{nat_cmp}
use Rattle.std.specs.FinSet as finset
use Rattle.moc_lists.specs.RangeList.{NumberSet, pixel_count}
use Rattle.moc_lists.specs.Lemmas.Members.{same_members}
use Rattle.moc_ranges.specs.Lemmas.Members.{contains-part_of, contains-pixels}
use Rattle.moc_ranges.specs.Operations.{base_pixel_size, pixels, part_of, IsWithin}
use Rattle.moc_parts.specs.Parts.{union_of, AreWithinParts}
use Rattle.moc_shared.proofs.SlotSets.{part_of_part, own_none}
use Rattle.moc_shared.specs.Seats.{Pointer}
use Rattle.moc_shared.specs.Private.Seats.{content, part, slot_at, list_of, IsWithinPart, AreWithinOwnParts}
use Rattle.moc_shared.specs.Private.Slots.{lists_of}

and_false : (x : Bool) → (x && false) ≡ false
and_false true = refl
and_false false = refl

pub and_true : (x : Bool) → (x && true) ≡ x
and_true true = refl
and_true false = refl

or_false : (x : Bool) → (x || false) ≡ x
or_false true = refl
or_false false = refl

-- a set within one base pixel has no pixel in another
pub not_in_other_part : (a : NumberSet) (k q : ℕ) → part_of a k ≡ a → q / base_pixel_size ≢ k → finset.contains a q ≡ false
not_in_other_part a k q own ne = ap (λ (s : NumberSet). finset.contains s q) (sym own) ∙ contains-part_of a k q
    ∙ ap (λ (t : Bool). finset.contains a q && t) (ne_eqb (q / base_pixel_size) k ne) ∙ and_false (finset.contains a q)

-- the sets are within the base pixels from k on
abbrev OwnFrom : ℕ → List NumberSet → Type 0
OwnFrom k [] = Unit {0}
OwnFrom k (a ∷ sets) = (part_of a k ≡ a) × OwnFrom (suc k) sets

own_from : (k : ℕ) (slots : List (Option Pointer)) → ((b : ℕ) → IsWithinPart (k + b) (slot_at slots b))
    → OwnFrom k (lists_of slots)
own_from k [] own = tt
own_from k (s ∷ ss) own = (
  subst (λ (j : ℕ). IsWithinPart j s) (add-zero k) (own 0),
  own_from (suc k) ss
      (λ b. subst (λ (j : ℕ). IsWithinPart j (slot_at ss b)) (let e : k + suc b ≡ suc k + b = omega arith in e) (own (suc b))),
)

union_before : (sets : List NumberSet) (k q : ℕ) → OwnFrom k sets → q / base_pixel_size < k
    → finset.contains (union_of sets) q ≡ false
union_before [] k q own l = finset.contains-empty nat_cmp q
union_before (a ∷ sets) k q own l =
    finset.contains-union nat_cmp_total a (union_of sets) q
    ∙ (λ i. not_in_other_part a k q own.0 (λ e. omega arith) i || union_before sets (suc k) q own.1 (omega arith) i)

union_in : (sets : List NumberSet) (k q d : ℕ) → OwnFrom k sets → q / base_pixel_size ≡ k + d
    → finset.contains (union_of sets) q ≡ finset.contains (get_or sets d finset.empty) q
union_in [] k q d own e = refl
union_in (a ∷ sets) k q zero own e =
    finset.contains-union nat_cmp_total a (union_of sets) q
    ∙ ap (λ (t : Bool). finset.contains a q || t) (union_before sets (suc k) q own.1 (omega arith))
    ∙ or_false (finset.contains a q)
union_in (a ∷ sets) k q (suc d) own e =
    finset.contains-union nat_cmp_total a (union_of sets) q
    ∙ ap (λ (t : Bool). t || finset.contains (union_of sets) q) (not_in_other_part a k q own.0 (λ s. omega arith))
    ∙ union_in sets (suc k) q d own.1 (omega arith)

pub list_at : (slots : List (Option Pointer)) (b : ℕ)
    → get_or (lists_of slots) b finset.empty ≡ list_of (slot_at slots b)
list_at [] b = refl
list_at (s ∷ ss) zero = refl
list_at (s ∷ ss) (suc b) = list_at ss b

-- a pixel is in the union if and only if it is in the set of its base pixel
pub union_at : (slots : List (Option Pointer)) (q : ℕ) → AreWithinOwnParts slots
    → finset.contains (union_of (lists_of slots)) q ≡ finset.contains (list_of (slot_at slots (q / base_pixel_size))) q
union_at slots q own =
    union_in (lists_of slots) 0 q (q / base_pixel_size)
    (own_from 0 slots
    (λ b. subst (λ (j : ℕ). IsWithinPart j (slot_at slots b)) (let e : b ≡ 0 + b = omega arith in e) (own b)))
    (let e : q / base_pixel_size ≡ 0 + q / base_pixel_size = omega arith in e)
    ∙ ap (λ (a : NumberSet). finset.contains a q) (list_at slots (q / base_pixel_size))

lists_long : (slots : List (Option Pointer)) → length (lists_of slots) ≡ length slots
lists_long [] = refl
lists_long (s ∷ ss) = ap suc (lists_long ss)

pub lists_within_parts : (slots : List (Option Pointer)) → length slots ≡ 12 → AreWithinOwnParts slots → AreWithinParts (lists_of slots)
lists_within_parts slots long own = record {
  twelve = lists_long slots ∙ long;
  own = λ b l. subst (λ (a : NumberSet). part_of a b ≡ a) (sym (list_at slots b)) (own b);
}

-- a pixel is in the sky if and only if it is in one of the twelve base pixels
sky_base : (q : ℕ) → q < pixel_count → q / base_pixel_size < 12
sky_base q l =
    let x : ℕ = q / base_pixel_size in
    let r : ℕ = q % base_pixel_size in
    let e : x * 288230376151711744 + r ≡ q = div-add-mod' q base_pixel_size in
    let z : x < 12 = omega arith in z

-- the pixels of a set in the sky are in one of the twelve base pixels
pub in_sky : (a : NumberSet) (q : ℕ) → IsWithin a pixels → 12 ≤ q / base_pixel_size → finset.contains a q ≡ false
in_sky a q within far = elim (cases_Bool (finset.contains a q)) [
  | inl t ↦ let l = sky_base q (ltb-true q pixel_count (sym (contains-pixels q) ∙ within.each q t)) in
      absurd (omega arith)
  | inr f ↦ f
]

pub get_beyond : (slots : List (Option Pointer)) (b : ℕ) → length slots ≤ b → slot_at slots b ≡ None
get_beyond [] b l = refl
get_beyond (s ∷ ss) zero l = absurd (omega arith)
get_beyond (s ∷ ss) (suc b) l = get_beyond ss b (omega arith)

pub union_within : (slots : List (Option Pointer)) → length slots ≡ 12 → AreWithinOwnParts slots
    → IsWithin (union_of (lists_of slots)) pixels
union_within slots long own = record { each = λ q has. contains-pixels q ∙ lt-ltb q pixel_count (below q has) }
  where
    rest_small : (q : ℕ) → q % base_pixel_size < 288230376151711744
    rest_small q = mod-lt q {m = base_pixel_size} (omega arith)

    base_sky : (q : ℕ) → q / base_pixel_size < 12 → q < pixel_count
    base_sky q l =
        let x : ℕ = q / base_pixel_size in
        let r : ℕ = q % base_pixel_size in
        let e : x * 288230376151711744 + r ≡ q = div-add-mod' q base_pixel_size in
        let s : r < 288230376151711744 = rest_small q in
        let z : q < 3458764513820540928 = omega arith in z

    below : (q : ℕ) → finset.contains (union_of (lists_of slots)) q ≡ true → q < pixel_count
    below q has = elim (cases_lt (q / base_pixel_size) 12) [
      | inl l ↦ base_sky q l
      | inr far ↦
          let none : slot_at slots (q / base_pixel_size) ≡ None =
          get_beyond slots (q / base_pixel_size) (omega (arith, long, far)) in
          absurd (true≢false
          (sym has ∙ union_at slots q own ∙ ap (λ (s : Option Pointer). finset.contains (list_of s) q) none
          ∙ finset.contains-empty nat_cmp q))
    ]

some_set : (a b : NumberSet) → Some a ≡ Some b → a ≡ b
some_set a b e = cc

slot_list : (s : Option Pointer) (b : ℕ) (a : NumberSet) → content s ≡ part b a → list_of s ≡ part_of a b
unfolding part
slot_list (Some p) b a e = some_set _ (part_of a b) e
slot_list None b a e = absurd (cc)

-- the union of slots that have the parts of a set is the set
pub union_whole : (slots : List (Option Pointer)) (a : NumberSet) → length slots ≡ 12 → IsWithin a pixels
    → ((b : ℕ) → b < 12 → content (slot_at slots b) ≡ part b a) → union_of (lists_of slots) ≡ a
union_whole slots a long within each = same_members _ _ (λ q. union_at slots q own ∙ one q)
  where
    own : AreWithinOwnParts slots
    own b = elim (cases_lt b 12) [
      | inl l ↦ subst (λ (s : NumberSet). part_of s b ≡ s) (sym (slot_list (slot_at slots b) b a (each b l)))
          (part_of_part a b)
      | inr far ↦ subst (λ (s : Option Pointer). IsWithinPart b s) (sym (get_beyond slots b (omega (arith, long, far))))
          (own_none b)
    ]

    one : (q : ℕ) → finset.contains (list_of (slot_at slots (q / base_pixel_size))) q ≡ finset.contains a q
    one q = elim (cases_lt (q / base_pixel_size) 12) [
      | inl l ↦
          let b : ℕ = q / base_pixel_size in
          ap (λ (s : NumberSet). finset.contains s q) (slot_list (slot_at slots b) b a (each b l))
          ∙ contains-part_of a b q ∙ ap (λ (t : Bool). finset.contains a q && t) (eq-eqb b b refl)
          ∙ and_true (finset.contains a q)
      | inr far ↦
          let b : ℕ = q / base_pixel_size in
          ap (λ (s : Option Pointer). finset.contains (list_of s) q) (get_beyond slots b (omega (arith, long, far)))
          ∙ finset.contains-empty nat_cmp q ∙ sym (in_sky a q within far)
    ]
