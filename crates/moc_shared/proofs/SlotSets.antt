-- The sets of slots, each within its own base pixel.
use Rattle.std.proofs.Common.{◌≡◌, ℕ, ◌<◌, ◌/◌, ◌&&◌, Bool, true, false, nat_eq, List, [], ◌∷◌, length}
use Rattle.std.proofs.Common.{set, refl, sym, ap, ◌∙◌, subst, Option, Some, None, get_or-set_same, map}
use Rattle.std.proofs.Common.{get_or-set_other}
use mathlib.Core.Logic.{dite}
use native.Mathlib.Decide.{ℕ_discrete}
use Rattle.std.specs.Ordering.{nat_cmp}
use Rattle.std.specs.FinSet as finset
use Rattle.std.specs.Arc.{arc_value}
use Rattle.moc_lists.specs.RangeList.{NumberSet}
use Rattle.moc_lists.specs.Lemmas.Members.{same_members}
use Rattle.moc_ranges.specs.Lemmas.Members.{contains-part_of}
use Rattle.moc_ranges.specs.Operations.{base_pixel_size, part_of}
use Rattle.std.specs.Borrow.{Bor}
use Rattle.std.specs.Option.{option_copied}
use Rattle.std.proofs.lemmas.Simd.{map-map}
use Rattle.moc_parts.specs.Prepared.{content_or_empty, given_sets}
use Rattle.moc_shared.specs.Seats.{Pointer}
use Rattle.moc_shared.specs.Private.Seats.{content, shared, part, slot_at, IsWithinPart, AreWithinOwnParts}
use Rattle.moc_shared.specs.Private.Slots.{lists_of}

and_idempotent : (x y : Bool) → ((x && y) && y) ≡ (x && y)
and_idempotent true true = refl
and_idempotent true false = refl
and_idempotent false y = refl

-- part b of part b is part b
pub part_of_part : (a : NumberSet) (b : ℕ) → part_of (part_of a b) b ≡ part_of a b
part_of_part a b =
    same_members _ _
    (λ q. contains-part_of (part_of a b) b q
    ∙ ap (λ (x : Bool). x && nat_eq (q / base_pixel_size) b) (contains-part_of a b q)
    ∙ and_idempotent (finset.contains a q) (nat_eq (q / base_pixel_size) b) ∙ sym (contains-part_of a b q))

-- a part of the empty set is empty
pub part_of_empty_set : (b : ℕ) → part_of finset.empty b ≡ finset.empty
part_of_empty_set b =
    same_members _ _
    (λ q. contains-part_of finset.empty b q
    ∙ ap (λ (x : Bool). x && nat_eq (q / base_pixel_size) b) (finset.contains-empty nat_cmp q)
    ∙ sym (finset.contains-empty nat_cmp q))

some_is_injective : (a b : NumberSet) → Some a ≡ Some b → a ≡ b
some_is_injective a b e = cc

-- a slot whose content is a part of a set has a pointer
pub never_out : (slot : Option Pointer) (b : ℕ) (a : NumberSet) → content slot ≡ part b a → slot ≡ None → ⊥
unfolding part
never_out (Some p) b a e n = absurd (cc)
never_out None b a e n = absurd (cc)

-- its pointer is to a set within the base pixel
pub pointer_within_part : (p : Pointer) (b : ℕ) (a : NumberSet) → shared p ≡ part b a → IsWithinPart b (Some p)
unfolding part
pointer_within_part p b a e = let is : arc_value p ≡ part_of a b = some_is_injective (arc_value p) (part_of a b) e in
    subst (λ (x : NumberSet). part_of x b ≡ x) (sym is) (part_of_part a b)

pub own_none : (b : ℕ) → IsWithinPart b None
own_none b = part_of_empty_set b

pub slots_within_after_set : (slots after : List (Option Pointer)) (b : ℕ) (p : Pointer) → AreWithinOwnParts slots → after ≡ set slots b (Some p)
    → b < length slots → IsWithinPart b (Some p) → AreWithinOwnParts after
slots_within_after_set slots after b p own put word_count new k =
    subst (λ (l : List (Option Pointer)). IsWithinPart k (slot_at l k)) (sym put) (dite (ℕ_discrete k b)
    (λ e. subst (λ (s : Option Pointer). IsWithinPart k s)
    (sym (ap (slot_at (set slots b (Some p))) e ∙ get_or-set_same slots b (Some p) None word_count))
    (subst (λ (j : ℕ). IsWithinPart j (Some p)) (sym e) new))
    (λ ne. subst (λ (s : Option Pointer). IsWithinPart k s) (sym (get_or-set_other slots b k (Some p) None ne)) (own k)))

-- the pointer that was removed from a slot whose content is a part of a set
pub slots_after_removal : (ms : List (ℕ × Option Pointer)) (b c : ℕ) (x y : Option Pointer) (xs ys : List (ℕ × Option Pointer))
    → ms ≡ (b, x) ∷ xs → ms ≡ (c, y) ∷ ys → x ≡ y
slots_after_removal ms b c x y xs ys e d = let f : List (ℕ × Option Pointer) → Option Pointer = first_slot x in ap f (sym e)
    ∙ ap f d
  where
    first_slot : Option Pointer → List (ℕ × Option Pointer) → Option Pointer
    first_slot z [] = z
    first_slot z (m ∷ ms) = m.1

-- the sets of the contents of slots
pub equal_slot_sets : (previous : List (Option (Bor NumberSet))) (slots : List (Option Pointer))
    → map option_copied previous ≡ map content slots → given_sets previous ≡ lists_of slots
equal_slot_sets previous slots same = sym (map-map content_or_empty option_copied previous) ∙ ap (map content_or_empty) same
    ∙ map-map content_or_empty content slots
