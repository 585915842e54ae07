-- Changing a set part by part.
use Rattle.std.proofs.Common.{◌≡◌, ℕ, ◌/◌, Bool, true, false, not, ◌&&◌, ◌||◌, nat_lt, nat_eq, inl, inr, refl, sym, ap, ◌∙◌}
use Rattle.std.specs.FinSet as set
use Rattle.moc_lists.specs.RangeList.{NumberSet, pixel_count}
use Rattle.moc_lists.specs.Lemmas.Members.{same_members}
use Rattle.moc_ranges.specs.Lemmas.Members.{contains-part_of, contains-complement, contains-pixels}
use Rattle.moc_ranges.specs.Operations.{pixels, base_pixel_size, complement, part_of, IsWithin}
use Rattle.moc_parts.specs.declared.change.Change.{Change}
use Rattle.moc_parts.specs.declared.change.Change.TheVariants.{Union, Subtract, Intersect, Invert, Degrade}
use Rattle.moc_parts.specs.Private.Changes.{set_after_change, changed_part, IsChange}
use Rattle.moc_parts.proofs.Members.{has-union, has-intersection, has-difference, or_true, and_true, both, absurd_bool, not_true_false, same_test, is_some, in_part, of_part}
use Rattle.moc_parts.proofs.Twelve.{or_with_false}
use Rattle.moc_parts.proofs.DegradingParts.{part-degrade, of_degrade}

or_and : (x y e : Bool) → ((x || y) && e) ≡ ((x && e) || (y && e))
or_and true y true = refl
or_and true true false = refl
or_and true false false = refl
or_and false y e = refl

and_reorder : (x y e : Bool) → ((x && y) && e) ≡ ((x && e) && y)
and_reorder true true true = refl
and_reorder true true false = refl
and_reorder true false true = refl
and_reorder true false false = refl
and_reorder false y e = refl

not_and_reorder : (n x e : Bool) → ((n && not x) && e) ≡ ((n && not (x && e)) && e)
not_and_reorder true true true = refl
not_and_reorder true true false = refl
not_and_reorder true false e = refl
not_and_reorder false x e = refl

pub part-union : (a s : NumberSet) (b : ℕ) → part_of (set.union a s) b ≡ set.union (part_of a b) (part_of s b)
part-union a s b = same_members _ _ (λ q.
    contains-part_of (set.union a s) b q ∙ ap (λ t. t && nat_eq (q / base_pixel_size) b) (has-union a s q) ∙ or_and (set.contains a q) (set.contains s q) (nat_eq (q / base_pixel_size) b)
    ∙ sym (has-union (part_of a b) (part_of s b) q ∙ (λ i. contains-part_of a b q i || contains-part_of s b q i)))

pub part-difference : (a s : NumberSet) (b : ℕ) → part_of (set.difference a s) b ≡ set.difference (part_of a b) s
part-difference a s b = same_members _ _ (λ q.
    contains-part_of (set.difference a s) b q ∙ ap (λ t. t && nat_eq (q / base_pixel_size) b) (has-difference a s q) ∙ and_reorder (set.contains a q) (not (set.contains s q)) (nat_eq (q / base_pixel_size) b)
    ∙ sym (has-difference (part_of a b) s q ∙ ap (λ t. t && not (set.contains s q)) (contains-part_of a b q)))

pub part-intersection : (a s : NumberSet) (b : ℕ) → part_of (set.intersection a s) b ≡ set.intersection (part_of a b) s
part-intersection a s b = same_members _ _ (λ q.
    contains-part_of (set.intersection a s) b q ∙ ap (λ t. t && nat_eq (q / base_pixel_size) b) (has-intersection a s q) ∙ and_reorder (set.contains a q) (set.contains s q) (nat_eq (q / base_pixel_size) b)
    ∙ sym (has-intersection (part_of a b) s q ∙ ap (λ t. t && set.contains s q) (contains-part_of a b q)))

pub part-complement : (a : NumberSet) (b : ℕ) → part_of (complement a) b ≡ part_of (complement (part_of a b)) b
part-complement a b = same_members _ _ (λ q.
    contains-part_of (complement a) b q ∙ ap (λ t. t && nat_eq (q / base_pixel_size) b) (contains-complement a q)
    ∙ not_and_reorder (nat_lt q pixel_count) (set.contains a q) (nat_eq (q / base_pixel_size) b)
    ∙ sym (contains-part_of (complement (part_of a b)) b q ∙ ap (λ t. t && nat_eq (q / base_pixel_size) b) (contains-complement (part_of a b) q ∙ ap (λ t. nat_lt q pixel_count && not t) (contains-part_of a b q))))

-- part b of the changed set is the changed part b
pub part_theorem : (change : Change) → IsChange change → (a : NumberSet) (b : ℕ) → part_of (set_after_change change a) b ≡ changed_part change (part_of a b) b
part_theorem (Union s) k a b = part-union a s.now b
part_theorem (Subtract s) k a b = part-difference a s.now b
part_theorem (Intersect s) k a b = part-intersection a s.now b
part_theorem Invert k a b = part-complement a b
part_theorem (Degrade order) k a b = part-degrade a order b k

-- a change keeps sets within the sky
pub changed_within : (change : Change) (a : NumberSet) → IsChange change → IsWithin a pixels → IsWithin (set_after_change change a) pixels
changed_within (Union s) a v w = record { each = λ q h. elim (or_true (set.contains a q) (set.contains s.now q) (sym (has-union a s.now q) ∙ h)) [ inl e ↦ w.each q e | inr e ↦ v.each q e ] }
changed_within (Subtract s) a v w = record { each = λ q h. w.each q (and_true (set.contains a q) (not (set.contains s.now q)) (sym (has-difference a s.now q) ∙ h)).0 }
changed_within (Intersect s) a v w = record { each = λ q h. w.each q (and_true (set.contains a q) (set.contains s.now q) (sym (has-intersection a s.now q) ∙ h)).0 }
changed_within Invert a v w = record { each = λ q h. contains-pixels q ∙ (and_true (nat_lt q pixel_count) (not (set.contains a q)) (sym (contains-complement a q) ∙ h)).0 }
changed_within (Degrade order) a v w = record { each = λ q h. contains-pixels q ∙ (of_degrade a order q h).3 }

-- adding a set without pixels in part b leaves part b unchanged
no_member : (s : NumberSet) (b q : ℕ) → nat_lt 0 (set.len (part_of s b)) ≡ false → set.contains (part_of s b) q ≡ false
no_member s b q none = not_true_false _ (λ h. absurd_bool _ (is_some (part_of s b) q h) none)

pub union_with_empty_part : (part s : NumberSet) (b : ℕ) → nat_lt 0 (set.len (part_of s b)) ≡ false → set.union part (part_of s b) ≡ part
union_with_empty_part part s b none = same_members _ _ (λ q. has-union part (part_of s b) q ∙ ap (λ t. set.contains part q || t) (no_member s b q none) ∙ or_with_false (set.contains part q))

-- removing a set without pixels in part b leaves part b unchanged
pub difference_with_empty_part : (part s : NumberSet) (b : ℕ) → part_of part b ≡ part → nat_lt 0 (set.len (part_of s b)) ≡ false → set.difference part s ≡ part
difference_with_empty_part part s b lies none = same_members _ _ (λ q. has-difference part s q ∙ same_test _ _
    (λ h. (and_true (set.contains part q) (not (set.contains s q)) h).0)
    (λ h. both h (ap not (not_true_false (set.contains s q) (λ t.
    let k = of_part part b q (ap (λ a. set.contains a q) lies ∙ h) in
    absurd_bool _ (in_part s b q t k.1) (no_member s b q none))))))
