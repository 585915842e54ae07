-- Lemmas on lists of ranges.
use Rattle.std.specs.Prelude.{◌≡◌, ℕ, ◌<◌, ◌≤◌, Bool, ◌&&◌, ◌||◌, List, [], ◌∷◌, nat_le, nat_lt}
use Rattle.std.specs.FinSet as set
use Rattle.std.specs.Ordering.{nat_cmp, eq_by_cmp}
use Rattle.std.specs.Cmp.{nat_cmp_total}
use Rattle.std.proofs.lemmas.Bool.Decides.{nat_tests}
use Rattle.std.proofs.lemmas.List.Sums.{sum_by-cons}
use Rattle.std.proofs.Common.{◌∙◌, zero, suc, ◌+◌, ◌-◌, false, cond, refl, sym, ap, arith, sum_by}
use Rattle.moc_blocks.specs.RangeList.{NumberSet, numbers, pixel_count, set_of, BeginsAfter, IsNormal}
use Rattle.moc_blocks.specs.Lemmas.Members.{contains-numbers, same_members, contains-set_of, in_ranges}

-- no number up to the end of a normal list's first range is in a later one
pub later_only : (x q : ℕ) (ranges : List (ℕ × ℕ)) → IsNormal ranges → BeginsAfter x ranges → q ≤ x
    → in_ranges ranges q ≡ false
later_only x q [] normal after le = refl
later_only x q (range ∷ ranges) normal after le =
    let rest = later_only range.1 q ranges normal.3 normal.2 (omega arith) in grind (arith, nat_tests)

none_more : (from q : ℕ) (b : Bool) → ((nat_le from q && nat_lt q (from + 0)) || b) ≡ b
none_more from q b = grind (arith, nat_tests)

one_more : (from n q : ℕ) (b : Bool)
    → ((nat_le from q && nat_lt q (from + suc n)) || b)
    ≡ (eq_by_cmp nat_cmp q from || ((nat_le (from + 1) q && nat_lt q (from + 1 + n)) || b))
one_more from n q b = grind (arith, nat_tests)

len_of_empty : set.len (set_of []) ≡ 0
unfolding set_of
len_of_empty = set.len-empty nat_cmp

-- adding n numbers that are not members makes a set larger by n
pub len-more : (from n : ℕ) (a : NumberSet) → ((q : ℕ) → from ≤ q → q < from + n → set.contains a q ≡ false)
    → set.len (set.union (numbers from (from + n)) a) ≡ n + set.len a
len-more from zero a none =
    let same : set.union (numbers from (from + 0)) a ≡ a =
    same_members _ _ (λ q.
    set.contains-union nat_cmp_total (numbers from (from + 0)) a q
    ∙ ap (λ b. b || set.contains a q) (contains-numbers from (from + 0) q)
    ∙ none_more from q (set.contains a q)) in
    ap set.len same ∙ omega arith
len-more from (suc n) a none =
    let rest = set.union (numbers (from + 1) (from + 1 + n)) a in
    let same : set.union (numbers from (from + suc n)) a ≡ set.insert rest from = same_members _ _ (λ q.
    set.contains-union nat_cmp_total (numbers from (from + suc n)) a q
    ∙ ap (λ b. b || set.contains a q) (contains-numbers from (from + suc n) q)
    ∙ one_more from n q (set.contains a q)
    ∙ (λ i.
    eq_by_cmp nat_cmp q from
    || sym (set.contains-union nat_cmp_total (numbers (from + 1) (from + 1 + n)) a q
    ∙ ap (λ b. b || set.contains a q) (contains-numbers (from + 1) (from + 1 + n) q)) i)
    ∙ sym (set.contains-insert nat_cmp_total rest from q)) in
    let lacks : set.contains rest from ≡ false =
    set.contains-union nat_cmp_total (numbers (from + 1) (from + 1 + n)) a from
    ∙ (λ i. contains-numbers (from + 1) (from + 1 + n) from i || none from (omega arith) (omega arith) i)
    ∙ grind (arith, nat_tests) in
    let fewer = len-more (from + 1) n a (λ q low high. none q (omega arith) (omega arith)) in
    ap set.len same
    ∙ set.len-insert nat_cmp_total rest from
    ∙ ap (λ b. cond b (set.len rest) (set.len rest + 1)) lacks
    ∙ omega arith

-- the size of a normal list's set, from its first range and the others
pub len-set_of_cons : (range : ℕ × ℕ) (ranges : List (ℕ × ℕ)) → IsNormal (range ∷ ranges)
    → set.len (set_of (range ∷ ranges)) ≡ (range.1 - range.0) + set.len (set_of ranges)
unfolding set_of
len-set_of_cons range ranges normal =
    let width : range.0 + (range.1 - range.0) ≡ range.1 = omega arith in
    ap (λ (to : ℕ). set.len (set.union (numbers range.0 to) (set_of ranges))) (sym width)
    ∙ len-more range.0 (range.1 - range.0) (set_of ranges) (λ q low high.
    contains-set_of ranges q ∙ later_only range.1 q ranges normal.3 normal.2 (omega arith))

-- the size of a normal list's set is the sum of the widths
pub len-set_of : (ranges : List (ℕ × ℕ)) → IsNormal ranges
    → set.len (set_of ranges) ≡ sum_by (λ range. range.1 - range.0) ranges
len-set_of [] normal = len_of_empty
len-set_of (range ∷ ranges) normal =
    len-set_of_cons range ranges normal
    ∙ ap (λ n. (range.1 - range.0) + n) (len-set_of ranges normal.3)
    ∙ sym (sum_by-cons (λ range. range.1 - range.0) range ranges)

set_size_bounded : (low : ℕ) (ranges : List (ℕ × ℕ)) → low ≤ pixel_count → IsNormal ranges → BeginsAfter low ranges
    → low + set.len (set_of ranges) ≤ pixel_count
set_size_bounded low [] le normal after = omega (arith, len_of_empty)
set_size_bounded low (range ∷ ranges) le normal after =
    omega (arith, len-set_of_cons range ranges normal, set_size_bounded range.1 ranges normal.1 normal.3 normal.2)

-- the size of a normal list's set is at most the number of pixels
pub len_bounded : (ranges : List (ℕ × ℕ)) → IsNormal ranges → set.len (set_of ranges) ≤ pixel_count
len_bounded [] normal = omega (arith, len_of_empty)
len_bounded (range ∷ ranges) normal =
    omega (arith, len-set_of_cons range ranges normal, set_size_bounded range.1 ranges normal.1 normal.3 normal.2)
