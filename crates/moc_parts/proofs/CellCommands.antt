-- Commands on the pixels of a cell, which is in a single part; and commands that add pixels that a set has.
use Rattle.std.proofs.Common.{◌≡◌, ℕ, ◌+◌, ◌*◌, ◌/◌, ◌<◌, Bool, true, false, ◌&&◌, ◌||◌, not, nat_eq, nat_le, nat_lt, refl, sym, ap, subst, ◌∙◌, inl, inr, arith, eq-eqb}
use Rattle.std.proofs.lemmas.Bool.{cases_Bool, true≢false}
use Rattle.std.proofs.lemmas.Bool.Decides.{nat_tests}
use Rattle.std.specs.Bool.{OnTrue}
use Rattle.std.specs.FinSet as set
use Rattle.std.specs.Ordering.{nat_cmp}
use Rattle.std.specs.Cmp.{nat_cmp_total}
use Rattle.moc_sphere.specs.CellNumber.{CellNumber, cell_size, IsCell}
use Rattle.moc_sphere.specs.Faces.{face_of}
use Rattle.moc_lists.specs.RangeList.{NumberSet}
use Rattle.moc_lists.specs.Lemmas.Members.{same_members}
use Rattle.moc_ranges.specs.Cells.{span}
use Rattle.moc_ranges.specs.Operations.{base_pixel_size, pixels, part_of, IsWithin}
use Rattle.moc_sphere.specs.Lemmas.{cell_size-positive}
use Rattle.moc_ranges.specs.Lemmas.Cells.{in_span}
use Rattle.moc_ranges.specs.Lemmas.Members.{contains-part_of, contains-span, contains-pixels}
use Rattle.moc_parts.specs.CellCommands.{command_of_action}
use Rattle.moc_parts.specs.Commands.{parts_met, NeedsOnly}
use Rattle.moc_parts.specs.declared.part_command.CellAction.{CellAction}
use Rattle.moc_parts.specs.declared.part_command.CellAction.TheVariants as action
use Rattle.moc_parts.proofs.Members as members
use Rattle.moc_parts.proofs.CellSurroundings.{in_face}
use Rattle.moc_parts.proofs.SingleParts.{parts_met_is_single}

-- ---- pixels that a set has

pub from_true : {P : Type 0} (b : Bool) → (b ≡ true → P) → OnTrue b P
from_true {P} true f = f refl
from_true {P} false f = tt

or_with_implied : (a b : Bool) → (b ≡ true → a ≡ true) → (a || b) ≡ a
or_with_implied true b has = refl
or_with_implied false true has = absurd (true≢false (sym (has refl)))
or_with_implied false false has = refl

new_not : (a b : Bool) → (b ≡ true → a ≡ true) → (b && not a) ≡ false
new_not true true has = refl
new_not true false has = refl
new_not false true has = absurd (true≢false (sym (has refl)))
new_not false false has = refl

pub union_with_subset : (a b : NumberSet) → set.is_subset b a ≡ true → set.union a b ≡ a
union_with_subset a b all = same_members _ _ (λ q.
    set.contains-union nat_cmp_total a b q
    ∙ or_with_implied (set.contains a q) (set.contains b q) (set.is_subset-contains nat_cmp_total b a all q))

pub none_new : (a b : NumberSet) → set.is_subset b a ≡ true → set.len (set.difference b a) ≡ 0
none_new a b all =
    let none : set.difference b a ≡ set.empty = same_members _ _ (λ q.
    set.contains-difference nat_cmp_total b a q
    ∙ new_not (set.contains a q) (set.contains b q) (set.is_subset-contains nat_cmp_total b a all q)
    ∙ sym (set.contains-empty nat_cmp q)) in
    ap set.len none ∙ set.len-empty nat_cmp

-- ---- the part of a cell

has_first_pixel : (i s : ℕ) → 0 < s → (nat_le (i * s) (i * s) && nat_lt (i * s) ((i + 1) * s)) ≡ true
has_first_pixel i s positive =
    let next : (i + 1) * s ≡ i * s + s = omega arith in
    grind (arith, nat_tests)

first_pixel : (c : CellNumber) → IsCell c → set.contains (span c.order c.index) (c.index * cell_size c.order) ≡ true
first_pixel c k = in_span c.order c.index _ k.order_in_range k.index_in_range (has_first_pixel c.index (cell_size c.order) (cell_size-positive c.order))

within_part : (c : CellNumber) → IsCell c → part_of (span c.order c.index) (face_of c.order c.index) ≡ span c.order c.index
within_part c k = same_members _ _ (λ q. contains-part_of (span c.order c.index) (face_of c.order c.index) q
    ∙ elim (cases_Bool (set.contains (span c.order c.index) q)) [
      | inl has ↦
          (λ i. has i && eq-eqb (q / base_pixel_size) (face_of c.order c.index) (sym (in_face c.order c.index q k.order_in_range has)) i) ∙ sym has
      | inr lacks ↦ ap (λ t. t && nat_eq (q / base_pixel_size) (face_of c.order c.index)) lacks ∙ sym lacks
    ])

not_empty : (a : NumberSet) (q : ℕ) → set.contains a q ≡ true → a ≡ set.empty → ⊥
not_empty a q has none = true≢false (sym has ∙ ap (λ (s : NumberSet). set.contains s q) none ∙ set.contains-empty nat_cmp q)

cell_part_met : (c : CellNumber) → IsCell c → (k : ℕ) → parts_met (span c.order c.index) k ≡ nat_eq (face_of c.order c.index) k
cell_part_met c is k =
    let a : NumberSet = span c.order c.index in
    let q = c.index * cell_size c.order in
    let has = first_pixel c is in
    let some = ap (λ (s : NumberSet). nat_lt 0 (set.len s)) (within_part c is) ∙ members.is_some a q has in
    parts_met_is_single a (face_of c.order c.index) k (within_part c is) some (not_empty a q has)

span_within : (c : CellNumber) → IsWithin (span c.order c.index) pixels
span_within c = record {
  each = λ q has. contains-pixels q ∙ (members.and_true _ _ (sym (contains-span c.order c.index q) ∙ has)).0;
}

needs_part : (a : CellAction) (c : CellNumber) → IsCell c → NeedsOnly (command_of_action a c) (face_of c.order c.index)
needs_part action.Add c k = record { met = cell_part_met c k; plain = refl; valid = (span_within c, tt) }
needs_part action.Remove c k = record { met = cell_part_met c k; plain = refl; valid = (span_within c, tt) }
needs_part action.Claim c k = record { met = cell_part_met c k; plain = refl; valid = (span_within c, tt) }
needs_part action.Count c k = record { met = cell_part_met c k; plain = refl; valid = (span_within c, tt) }

pub cell_needs_part : (a : CellAction) (c : CellNumber) (b : ℕ) → IsCell c → b ≡ face_of c.order c.index → NeedsOnly (command_of_action a c) b
cell_needs_part a c b k is = subst (NeedsOnly (command_of_action a c)) (sym is) (needs_part a c k)
