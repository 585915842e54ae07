-- The number of pixels that a change adds or removes.
use Rattle.std.proofs.Common.{◌≡◌, ℕ, ◌+◌, ◌-◌, ◌/◌, Bool, true, false, not, ◌&&◌, ◌||◌, nat_eq, nat_lt, inl, inr, refl, sym, ap, ◌∙◌}
use Rattle.std.specs.Ordering.{nat_cmp}
use Rattle.std.specs.FinSet as set
use Rattle.moc_lists.specs.RangeList.{NumberSet, pixel_count}
use Rattle.moc_lists.specs.Lemmas.Members.{same_members}
use Rattle.moc_ranges.specs.Lemmas.Members.{contains-complement, contains-part_of, contains-symmetric}
use Rattle.moc_ranges.specs.Operations.{pixels, base_pixel_size, complement, part_of, symmetric, IsWithin}
use Rattle.moc_ranges.specs.Cells.{degrade}
use Rattle.moc_lists.specs.Lemmas.Sizes.{len_parts}
use Rattle.moc_parts.proofs.Members.{has-union, has-intersection, has-difference, has-empty, and_true, or_true}
use Rattle.moc_parts.proofs.Counts.{in_degrade, degrade_added}
use Rattle.moc_parts.proofs.Sums.{difference_count, removed_count}

-- sets with an empty symmetric difference are equal
pub equal_if_no_difference : (a b : NumberSet) → set.len (symmetric a b) ≡ 0 → a ≡ b
equal_if_no_difference a b none = same_members _ _ (λ q. same (set.contains a q) (set.contains b q)
    (sym (contains-symmetric a b q) ∙ ap (λ s. set.contains s q) (set.empty_of_len (symmetric a b) none) ∙ has-empty q))
  where
    same : (x y : Bool) → ((x && not y) || (y && not x)) ≡ false → x ≡ y
    same true true h = refl
    same true false h = absurd (cc)
    same false true h = absurd (cc)
    same false false h = refl

pub changed_pixels-union : (a s : NumberSet) → symmetric (set.union a s) a ≡ set.difference s a
changed_pixels-union a s = same_members _ _ (λ q. contains-symmetric (set.union a s) a q
    ∙ ap (λ t. (t && not (set.contains a q)) || (set.contains a q && not t)) (has-union a s q) ∙ only (set.contains a q) (set.contains s q) ∙ sym (has-difference s a q))
  where
    only : (x y : Bool) → (((x || y) && not x) || (x && not (x || y))) ≡ (y && not x)
    only true true = refl
    only true false = refl
    only false true = refl
    only false false = refl

pub changed_pixels-difference : (a s : NumberSet) → symmetric (set.difference a s) a ≡ set.intersection a s
changed_pixels-difference a s = same_members _ _ (λ q. contains-symmetric (set.difference a s) a q
    ∙ ap (λ t. (t && not (set.contains a q)) || (set.contains a q && not t)) (has-difference a s q) ∙ only (set.contains a q) (set.contains s q) ∙ sym (has-intersection a s q))
  where
    only : (x y : Bool) → (((x && not y) && not x) || (x && not (x && not y))) ≡ (x && y)
    only true true = refl
    only true false = refl
    only false y = refl

pub changed_pixels-intersection : (a s : NumberSet) → symmetric (set.intersection a s) a ≡ set.difference a s
changed_pixels-intersection a s = same_members _ _ (λ q. contains-symmetric (set.intersection a s) a q
    ∙ ap (λ t. (t && not (set.contains a q)) || (set.contains a q && not t)) (has-intersection a s q) ∙ only (set.contains a q) (set.contains s q) ∙ sym (has-difference a s q))
  where
    only : (x y : Bool) → (((x && y) && not x) || (x && not (x && y))) ≡ (x && not y)
    only true true = refl
    only true false = refl
    only false y = refl

pub changed_pixels-degrade : (a : NumberSet) (order : ℕ) → IsWithin a pixels → symmetric (degrade a order) a ≡ set.difference (degrade a order) a
changed_pixels-degrade a order w = same_members _ _ (λ q. contains-symmetric (degrade a order) a q
    ∙ only (set.contains a q) (set.contains (degrade a order) q) (in_degrade a order w q) ∙ sym (has-difference (degrade a order) a q))
  where
    only : (x d : Bool) → (x ≡ true → d ≡ true) → ((d && not x) || (x && not d)) ≡ (d && not x)
    only true true f = refl
    only true false f = sym (f refl)
    only false true f = refl
    only false false f = refl

-- the size of the symmetric difference of disjoint sets is the sum of their sizes
symmetric_size_of_disjoint : (a b : NumberSet) → ((q : ℕ) → (set.contains a q && set.contains b q) ≡ false) → set.len b + set.len a ≡ set.len (symmetric a b)
symmetric_size_of_disjoint a b none =
    let second : set.intersection (symmetric a b) b ≡ b = same_members _ _ (λ q. has-intersection (symmetric a b) b q ∙ ap (λ t. t && set.contains b q) (contains-symmetric a b q)
    ∙ in_second (set.contains a q) (set.contains b q) (none q)) in
    let first : set.difference (symmetric a b) b ≡ a = same_members _ _ (λ q. has-difference (symmetric a b) b q ∙ ap (λ t. t && not (set.contains b q)) (contains-symmetric a b q)
    ∙ in_first (set.contains a q) (set.contains b q) (none q)) in
    (λ i. set.len (sym second i) + set.len (sym first i)) ∙ len_parts (symmetric a b) b
  where
    in_second : (x y : Bool) → (x && y) ≡ false → (((x && not y) || (y && not x)) && y) ≡ y
    in_second true true h = absurd (cc)
    in_second true false h = refl
    in_second false true h = refl
    in_second false false h = refl

    in_first : (x y : Bool) → (x && y) ≡ false → (((x && not y) || (y && not x)) && not y) ≡ x
    in_first true true h = absurd (cc)
    in_first true false h = refl
    in_first false true h = refl
    in_first false false h = refl

pub changed_pixels-complement : (a : NumberSet) (b : ℕ) → set.len a + set.len (part_of (complement a) b) ≡ set.len (symmetric (part_of (complement a) b) a)
changed_pixels-complement a b = symmetric_size_of_disjoint (part_of (complement a) b) a (λ q.
    ap (λ t. t && set.contains a q) (contains-part_of (complement a) b q ∙ ap (λ t. t && nat_eq (q / base_pixel_size) b) (contains-complement a q))
    ∙ neither (nat_lt q pixel_count) (set.contains a q) (nat_eq (q / base_pixel_size) b))
  where
    neither : (p x e : Bool) → (((p && not x) && e) && x) ≡ false
    neither true true e = refl
    neither true false true = refl
    neither true false false = refl
    neither false x e = refl

-- part b of a symmetric difference
part-symmetric : (a s : NumberSet) (b : ℕ) → part_of (symmetric a s) b ≡ symmetric (part_of a b) (part_of s b)
part-symmetric a s b = same_members _ _ (λ q.
    contains-part_of (symmetric a s) b q ∙ ap (λ t. t && nat_eq (q / base_pixel_size) b) (contains-symmetric a s q)
    ∙ inside (set.contains a q) (set.contains s q) (nat_eq (q / base_pixel_size) b)
    ∙ (λ i. (sym (contains-part_of a b q) i && not (sym (contains-part_of s b q) i)) || (sym (contains-part_of s b q) i && not (sym (contains-part_of a b q) i)))
    ∙ sym (contains-symmetric (part_of a b) (part_of s b) q))
  where
    inside : (x y e : Bool) → (((x && not y) || (y && not x)) && e) ≡ (((x && e) && not (y && e)) || ((y && e) && not (x && e)))
    inside true true true = refl
    inside true true false = refl
    inside true false true = refl
    inside true false false = refl
    inside false true true = refl
    inside false true false = refl
    inside false false e = refl

-- the symmetric difference is a set of pixels
pub changes_within : (a b : NumberSet) → IsWithin a pixels → IsWithin b pixels → IsWithin (symmetric a b) pixels
changes_within a b v w = record {
  each = λ q h. elim (or_true (set.contains a q && not (set.contains b q)) (set.contains b q && not (set.contains a q)) (sym (contains-symmetric a b q) ∙ h)) [
    | inl first ↦ v.each q (and_true (set.contains a q) (not (set.contains b q)) first).0
    | inr second ↦ w.each q (and_true (set.contains b q) (not (set.contains a q)) second).0
  ];
}

-- the number of changed pixels in a part, from the old and the new part
pub changed_in_part : (new old part made : NumberSet) (b : ℕ) → part ≡ part_of old b → made ≡ part_of new b → set.len (symmetric made part) ≡ set.len (part_of (symmetric new old) b)
changed_in_part new old part made b p m = (λ i. set.len (symmetric (m i) (p i))) ∙ ap set.len (sym (part-symmetric new old b))

-- ---- the counts of the program

-- equal sets differ in no pixel
pub equal_unchanged : (old new : NumberSet) → new ≡ old → 0 ≡ set.len (symmetric new old)
equal_unchanged old new same = sym (ap set.len (same_members (symmetric new old) set.empty (λ q. ap (λ s. set.contains (symmetric s old) q) same ∙ contains-symmetric old old q ∙ nowhere (set.contains old q) ∙ sym (has-empty q))) ∙ set.len-empty nat_cmp)
  where
    nowhere : (x : Bool) → ((x && not x) || (x && not x)) ≡ false
    nowhere true = refl
    nowhere false = refl

-- sets that differ in no pixel are equal
pub unchanged_equal : (old new : NumberSet) (n : ℕ) → n ≡ set.len (symmetric new old) → n ≡ 0 → new ≡ old
unchanged_equal old new n count none = equal_if_no_difference new old (sym count ∙ none)

-- a union of lists, and the counts of the program
pub added_pixel_count : (list more : NumberSet) → set.len more - set.len (set.intersection list more) ≡ set.len (symmetric (set.union list more) list)
added_pixel_count list more = difference_count list more ∙ ap set.len (sym (changed_pixels-union list more))

pub common_pixels : (list others : NumberSet) → set.len (set.intersection list others) ≡ set.len (symmetric (set.difference list others) list)
common_pixels list others = ap set.len (sym (changed_pixels-difference list others))

pub dropped_pixels : (list others : NumberSet) → set.len list - set.len (set.intersection list others) ≡ set.len (symmetric (set.intersection list others) list)
dropped_pixels list others = removed_count list others ∙ ap set.len (sym (changed_pixels-intersection list others))

pub added_pixels : (list : NumberSet) (order : ℕ) → IsWithin list pixels → set.len (degrade list order) - set.len list ≡ set.len (symmetric (degrade list order) list)
added_pixels list order w = degrade_added list order w ∙ ap set.len (sym (changed_pixels-degrade list order w))
