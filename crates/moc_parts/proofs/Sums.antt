-- Sizes as sums over the parts.
use Rattle.std.proofs.Common.{◌≡◌, ℕ, zero, suc, ◌+◌, ◌-◌, ◌/◌, ◌<◌, ◌≤◌, Bool, true, false, not, ◌&&◌, ◌||◌, nat_lt, nat_eq, [], ◌∷◌, refl, sym, ap, subst, ◌∙◌, arith}
use Rattle.std.proofs.lemmas.Bool.{lt-ltb}
use Rattle.std.proofs.lemmas.Bool.Decides.{nat_tests}
use Rattle.std.specs.FinSet as set
use Rattle.moc_lists.specs.RangeList.{NumberSet, pixel_count, IsNormal, set_of}
use Rattle.moc_lists.specs.Lemmas.Members.{same_members, in_ranges, contains-set_of}
use Rattle.moc_ranges.specs.Lemmas.Members.{contains-part_of, contains-pixels, meets-some}
use Rattle.moc_ranges.specs.Operations.{pixels, base_pixel_size, part_of, meets, IsWithin}
use Rattle.moc_lists.specs.Lemmas.Sizes.{len_parts}
use Rattle.moc_lists.specs.Lemmas.Ranges.{len_bounded}
use Rattle.std.specs.Cmp.{nat_cmp_total}
use Rattle.std.specs.Ordering.{nat_cmp}
use Rattle.moc_parts.specs.Commands.{parts_met}
use Rattle.moc_parts.proofs.Counts.{no_pixels_unless_met}
use Rattle.moc_parts.proofs.Members.{has-union, has-intersection, has-difference, has-empty, and_true, both, same_test, meets_at, in_part, of_part}
use Rattle.moc_parts.proofs.Twelve.{first_parts, has-first_parts, first_parts-next, first_parts-none, or_with_false, within_base}

and_with_weaker_bound : (x s : Bool) (r n : ℕ) → (((x && nat_lt r (n + 1)) && s) && (x && nat_lt r n)) ≡ ((x && nat_lt r n) && s)
and_with_weaker_bound true true r n = grind (arith, nat_tests)
and_with_weaker_bound true false r n = grind (arith, nat_tests)
and_with_weaker_bound false s r n = refl

late : (x s : Bool) (r n : ℕ) → (((x && nat_lt r (n + 1)) && s) && not (x && nat_lt r n)) ≡ ((x && nat_eq r n) && s)
late true true r n = grind (arith, nat_tests)
late true false r n = grind (arith, nat_tests)
late false s r n = refl

-- the intersection of the first parts with a set, with one more part
pub len-next : (a s : NumberSet) (n : ℕ) → set.len (set.intersection (first_parts a n) s) + set.len (set.intersection (part_of a n) s) ≡ set.len (set.intersection (first_parts a (n + 1)) s)
len-next a s n =
    let whole : NumberSet = set.intersection (first_parts a (n + 1)) s in
    let old : set.intersection whole (first_parts a n) ≡ set.intersection (first_parts a n) s = same_members _ _ (λ q.
    has-intersection whole (first_parts a n) q
    ∙ (λ i. (has-intersection (first_parts a (n + 1)) s q ∙ ap (λ t. t && set.contains s q) (has-first_parts a (n + 1) q)) i && has-first_parts a n q i)
    ∙ and_with_weaker_bound (set.contains a q) (set.contains s q) (q / base_pixel_size) n
    ∙ sym (has-intersection (first_parts a n) s q ∙ ap (λ t. t && set.contains s q) (has-first_parts a n q))) in
    let new : set.difference whole (first_parts a n) ≡ set.intersection (part_of a n) s = same_members _ _ (λ q.
    has-difference whole (first_parts a n) q
    ∙ (λ i. (has-intersection (first_parts a (n + 1)) s q ∙ ap (λ t. t && set.contains s q) (has-first_parts a (n + 1) q)) i && not (has-first_parts a n q i))
    ∙ late (set.contains a q) (set.contains s q) (q / base_pixel_size) n
    ∙ sym (has-intersection (part_of a n) s q ∙ ap (λ t. t && set.contains s q) (contains-part_of a n q))) in
    (λ i. set.len (sym old i) + set.len (sym new i)) ∙ len_parts whole (first_parts a n)

in_all : (q : ℕ) → in_ranges ((0, pixel_count) ∷ []) q ≡ nat_lt q pixel_count
in_all q = grind (arith, nat_tests)

all_normal : IsNormal ((0, pixel_count) ∷ [])
all_normal = (omega arith, omega arith, tt, tt)

-- a set has at most as many pixels as the sky
pub len_within : (a : NumberSet) → IsWithin a pixels → set.len a ≤ pixel_count
len_within a w =
    let all : set_of ((0, pixel_count) ∷ []) ≡ pixels = same_members _ _ (λ q. contains-set_of ((0, pixel_count) ∷ []) q ∙ in_all q ∙ sym (contains-pixels q)) in
    let bound : set.len pixels ≤ pixel_count = subst (λ s. set.len s ≤ pixel_count) all (len_bounded ((0, pixel_count) ∷ []) all_normal) in
    let is : set.intersection pixels a ≡ a = same_members _ _ (λ q. same_test _ _
    (λ h. (and_true _ _ (sym (has-intersection pixels a q) ∙ h)).1)
    (λ h. has-intersection pixels a q ∙ both (w.each q h) h)) in
    let parts = len_parts pixels a in
    let e : set.len (set.intersection pixels a) ≡ set.len a = ap set.len is in
    omega arith

pub first_within : (a : NumberSet) (n : ℕ) → IsWithin a pixels → IsWithin (first_parts a n) pixels
first_within a n w = record { each = λ q h. w.each q (and_true _ _ (sym (has-first_parts a n q) ∙ h)).0 }

pub common_bound : (a s : NumberSet) → IsWithin a pixels → set.len (set.intersection a s) ≤ pixel_count
common_bound a s w = let parts = len_parts a s in let bound = len_within a w in omega arith

-- at the start
pub common-none : (a s : NumberSet) → set.intersection (first_parts a 0) s ≡ set.empty
common-none a s = same_members _ _ (λ q. has-intersection (first_parts a 0) s q ∙ ap (λ t. set.contains t q && set.contains s q) (first_parts-none a) ∙ ap (λ t. t && set.contains s q) (has-empty q) ∙ sym (has-empty q))

pub len_none : (a s : NumberSet) → 0 ≡ set.len (set.intersection (first_parts a 0) s)
len_none a s = sym (ap set.len (common-none a s) ∙ set.len-empty nat_cmp)

-- an intersection with a set of pixels is a set of pixels
common_within : (a s : NumberSet) → IsWithin s pixels → IsWithin (set.intersection a s) pixels
common_within a s w = record { each = λ q h. w.each q (and_true _ _ (sym (has-intersection a s q) ∙ h)).1 }

pub added_bound : (a s : NumberSet) (n : ℕ) → IsWithin s pixels → set.len (set.intersection (first_parts a n) s) + set.len (set.intersection (part_of a n) s) ≤ pixel_count
added_bound a s n w = let next = len-next a s n in let bound = len_within _ (common_within (first_parts a (n + 1)) s w) in omega arith

-- at the end
pub common-met : (a s : NumberSet) → IsWithin s pixels → set.intersection (first_parts a 12) s ≡ set.intersection a s
common-met a s w = same_members _ _ (λ q. has-intersection (first_parts a 12) s q ∙ same_test _ _
    (λ h. let k = and_true _ _ h in has-intersection a s q ∙ both (and_true _ _ (sym (has-first_parts a 12 q) ∙ k.0)).0 k.1)
    (λ h.
    let k = and_true _ _ (sym (has-intersection a s q) ∙ h) in
    both (has-first_parts a 12 q ∙ both k.0 (lt-ltb (q / base_pixel_size) 12 (within_base s w q k.1))) k.1))

or_and : (x y e : Bool) → ((x && e) || (y && e)) ≡ ((x || y) && e)
or_and true y true = refl
or_and true true false = refl
or_and true false false = refl
or_and false y e = refl

-- with one more part
pub common-next : (a s : NumberSet) (n : ℕ) → set.union (set.intersection (first_parts a n) s) (set.intersection (part_of a n) s) ≡ set.intersection (first_parts a (n + 1)) s
common-next a s n = same_members _ _ (λ q.
    has-union (set.intersection (first_parts a n) s) (set.intersection (part_of a n) s) q
    ∙ (λ i. has-intersection (first_parts a n) s q i || has-intersection (part_of a n) s q i)
    ∙ or_and (set.contains (first_parts a n) q) (set.contains (part_of a n) q) (set.contains s q)
    ∙ sym (has-intersection (first_parts a (n + 1)) s q ∙ ap (λ t. t && set.contains s q) (sym (ap (λ t. set.contains t q) (first_parts-next a n)) ∙ has-union (first_parts a n) (part_of a n) q)))

first-self : (a : NumberSet) (n : ℕ) → set.intersection (first_parts a n) a ≡ first_parts a n
first-self a n = same_members _ _ (λ q. has-intersection (first_parts a n) a q ∙ same_test _ _
    (λ h. (and_true _ _ h).0) (λ h. both h (and_true _ _ (sym (has-first_parts a n q) ∙ h)).0))

part-self : (a : NumberSet) (n : ℕ) → set.intersection (part_of a n) a ≡ part_of a n
part-self a n = same_members _ _ (λ q. has-intersection (part_of a n) a q ∙ same_test _ _
    (λ h. (and_true _ _ h).0) (λ h. both h (and_true _ _ (sym (contains-part_of a n q) ∙ h)).0))

-- the size of the first parts, with one more part
pub size-next : (a : NumberSet) (n : ℕ) → set.len (first_parts a n) + set.len (part_of a n) ≡ set.len (first_parts a (n + 1))
size-next a n = (λ i. set.len (sym (first-self a n) i) + set.len (sym (part-self a n) i)) ∙ len-next a a n ∙ ap set.len (first-self a (n + 1))

pub size_bound : (a : NumberSet) (n : ℕ) → IsWithin a pixels → set.len (first_parts a n) + set.len (part_of a n) ≤ pixel_count
size_bound a n w = let next = size-next a n in let bound = len_within (first_parts a (n + 1)) (first_within a (n + 1) w) in omega arith

pub size_none : (a : NumberSet) → 0 ≡ set.len (first_parts a 0)
size_none a = sym (ap set.len (first_parts-none a) ∙ set.len-empty nat_cmp)

-- the number of missing pixels, from the number of common pixels
pub difference_count : (a s : NumberSet) → set.len s - set.len (set.intersection a s) ≡ set.len (set.difference s a)
difference_count a s =
    let changed_pixels : set.intersection s a ≡ set.intersection a s = same_members _ _ (λ q. has-intersection s a q ∙ swap (set.contains s q) (set.contains a q) ∙ sym (has-intersection a s q)) in
    let e : set.len (set.intersection s a) ≡ set.len (set.intersection a s) = ap set.len changed_pixels in
    let parts = len_parts s a in omega arith
  where
    swap : (x y : Bool) → (x && y) ≡ (y && x)
    swap true true = refl
    swap true false = refl
    swap false true = refl
    swap false false = refl

pub shared_less : (a s : NumberSet) → set.len (set.intersection a s) ≤ set.len s
shared_less a s =
    let changed_pixels : set.intersection s a ≡ set.intersection a s = same_members _ _ (λ q. has-intersection s a q ∙ swap (set.contains s q) (set.contains a q) ∙ sym (has-intersection a s q)) in
    let e : set.len (set.intersection s a) ≡ set.len (set.intersection a s) = ap set.len changed_pixels in
    let parts = len_parts s a in omega arith
  where
    swap : (x y : Bool) → (x && y) ≡ (y && x)
    swap true true = refl
    swap true false = refl
    swap false true = refl
    swap false false = refl

pub common_count_at_most : (a s : NumberSet) → set.len (set.intersection a s) ≤ set.len a
common_count_at_most a s = let parts = len_parts a s in omega arith

pub removed_count : (a s : NumberSet) → set.len a - set.len (set.intersection a s) ≡ set.len (set.difference a s)
removed_count a s = let parts = len_parts a s in omega arith

-- ---- whether two sets meet, part by part

pub meets-none : (a s : NumberSet) → meets (first_parts a 0) s ≡ false
unfolding meets
meets-none a s = ap (λ n. nat_lt 0 n) (sym (len_none a s))

sum_of_zeros : (x y z : ℕ) → x + y ≡ z → nat_lt 0 x ≡ false → nat_lt 0 y ≡ false → nat_lt 0 z ≡ false
sum_of_zeros x y z e f g = grind (arith, nat_tests)

pub meets-next : (a s : NumberSet) (n : ℕ) → meets (first_parts a n) s ≡ false → meets (part_of a n) s ≡ false → meets (first_parts a (n + 1)) s ≡ false
unfolding meets
meets-next a s n f g = sum_of_zeros _ _ _ (len-next a s n) f g

pub meets-part : (a s : NumberSet) (b : ℕ) → meets (part_of a b) s ≡ true → meets a s ≡ true
meets-part a s b h = let m = meets_at (part_of a b) s h in meets-some a s m.0 (of_part a b m.0 m.1).0 m.2

-- a union with the empty set
pub union-no_pixels : (a b : NumberSet) → b ≡ set.empty → set.union a b ≡ a
union-no_pixels a b e = same_members _ _ (λ q. has-union a b q ∙ ap (λ t. set.contains a q || set.contains t q) e ∙ ap (λ t. set.contains a q || t) (has-empty q) ∙ or_with_false (set.contains a q))

pub no_pixels-union : (a b : NumberSet) → a ≡ set.empty → set.union a b ≡ b
no_pixels-union a b e = same_members _ _ (λ q. has-union a b q ∙ ap (λ t. set.contains t q || set.contains b q) e ∙ ap (λ t. t || set.contains b q) (has-empty q))

-- the intersection of a part with a set that covers its base pixel is the part
pub part-covered : (a s : NumberSet) (b : ℕ) → IsWithin a pixels → set.is_subset (part_of pixels b) s ≡ true → set.intersection (part_of a b) s ≡ part_of a b
part-covered a s b w sub = same_members _ _ (λ q. has-intersection (part_of a b) s q ∙ same_test _ _
    (λ h. (and_true (set.contains (part_of a b) q) (set.contains s q) h).0)
    (λ h.
    let k = of_part a b q h in
    both h (set.is_subset-contains nat_cmp_total (part_of pixels b) s sub q (in_part pixels b q (w.each q k.0) k.1))))

-- the intersection with a set that has no pixel in the part is empty
pub part-missed : (a s : NumberSet) (b : ℕ) → nat_lt 0 (set.len (part_of s b)) ≡ false → 0 ≡ set.len (set.intersection (part_of a b) s)
part-missed a s b missed =
    let no_pixels : part_of s b ≡ set.empty = set.empty_of_len (part_of s b) (none (set.len (part_of s b)) missed) in
    sym (ap set.len (same_members (set.intersection (part_of a b) s) set.empty (λ q. has-intersection (part_of a b) s q ∙ shifted (set.contains a q) (set.contains s q) (nat_eq (q / base_pixel_size) b) (contains-part_of a b q)
    ∙ sym (ap (λ t. set.contains a q && t) (contains-part_of s b q)) ∙ ap (λ c. set.contains a q && set.contains c q) no_pixels ∙ ap (λ t. set.contains a q && t) (has-empty q) ∙ never (set.contains a q) ∙ sym (has-empty q))) ∙ set.len-empty nat_cmp)
  where
    none : (n : ℕ) → nat_lt 0 n ≡ false → n ≡ 0
    none n h = grind (arith, nat_tests)

    never : (x : Bool) → (x && false) ≡ false
    never true = refl
    never false = refl

    shifted : (x y e : Bool) {t : Bool} → t ≡ (x && e) → (t && y) ≡ (x && (y && e))
    shifted true true true h = ap (λ t. t && true) h
    shifted true true false h = ap (λ t. t && true) h
    shifted true false true h = ap (λ t. t && false) h
    shifted true false false h = ap (λ t. t && false) h
    shifted false y e h = ap (λ t. t && y) h

-- ---- skipped parts

common_part_unchanged : (a s : NumberSet) (n d : ℕ) → ((k : ℕ) → n ≤ k → k < n + d → parts_met s k ≡ false) → set.intersection (first_parts a n) s ≡ set.intersection (first_parts a (n + d)) s
common_part_unchanged a s n zero none = let e : n ≡ n + 0 = omega arith in ap (λ m. set.intersection (first_parts a m) s) e
common_part_unchanged a s n (suc d) none =
    let e : (n + d) + 1 ≡ n + suc d = omega arith in
    let no_pixels : set.intersection (part_of a (n + d)) s ≡ set.empty =
    set.empty_of_len (set.intersection (part_of a (n + d)) s) (sym (part-missed a s (n + d) (no_pixels_unless_met s (n + d) (none (n + d) (omega arith) (omega arith))))) in
    common_part_unchanged a s n d (λ k l m. none k l (omega arith))
    ∙ sym (union-no_pixels (set.intersection (first_parts a (n + d)) s) (set.intersection (part_of a (n + d)) s) no_pixels)
    ∙ common-next a s (n + d) ∙ ap (λ m. set.intersection (first_parts a m) s) e

-- the intersection of the first parts with a set does not change over parts in which the set has no pixel
pub common-upto : (a s : NumberSet) (n b : ℕ) → n ≤ b → ((k : ℕ) → n ≤ k → k < b → parts_met s k ≡ false) → set.intersection (first_parts a n) s ≡ set.intersection (first_parts a b) s
common-upto a s n b le none =
    let e : n + (b - n) ≡ b = omega arith in
    common_part_unchanged a s n (b - n) (λ k l m. none k l (omega arith)) ∙ ap (λ m. set.intersection (first_parts a m) s) e

pub len-upto : (a s : NumberSet) (n b : ℕ) → n ≤ b → ((k : ℕ) → n ≤ k → k < b → parts_met s k ≡ false) → set.len (set.intersection (first_parts a n) s) ≡ set.len (set.intersection (first_parts a b) s)
len-upto a s n b le none = ap set.len (common-upto a s n b le none)

-- parts in which the other set has no pixel do not affect whether the sets meet
pub meets-upto : (a s : NumberSet) (n b : ℕ) → n ≤ b → ((k : ℕ) → n ≤ k → k < b → parts_met s k ≡ false) → meets (first_parts a n) s ≡ meets (first_parts a b) s
unfolding meets
meets-upto a s n b le none = ap (λ m. nat_lt 0 m) (len-upto a s n b le none)

pub meets-met : (a s : NumberSet) → IsWithin s pixels → meets (first_parts a 12) s ≡ meets a s
unfolding meets
meets-met a s w = ap (λ t. nat_lt 0 (set.len t)) (common-met a s w)
