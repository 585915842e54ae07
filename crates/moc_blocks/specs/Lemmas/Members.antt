-- Membership in sets: lemmas on the definitions, for proofs.
use Rattle.std.specs.Prelude.{◌≡◌, ℕ, zero, suc, ◌+◌, ◌-◌, List, [], ◌∷◌, Bool, ◌&&◌, ◌||◌, nat_le, nat_lt, nat_eq}
use Rattle.std.specs.FinSet as set
use Rattle.std.specs.Ordering.{nat_cmp}
use Rattle.std.specs.Cmp.{nat_cmp_total}
use Rattle.std.specs.List.{range_with_len, list_any}
use Rattle.std.proofs.Common.{arith, ◌∙◌, sym, ap, refl, true, false, ◌++◌}
use Rattle.std.proofs.lemmas.Bool.Decides.{nat_tests}
use Rattle.std.proofs.lemmas.List.Folds.{list_any-append}
use Rattle.moc_blocks.specs.RangeList.{NumberSet, numbers, set_of}

-- two sets with the same members are equal
pub same_members : (a b : NumberSet) → ((q : ℕ) → set.contains a q ≡ set.contains b q) → a ≡ b
same_members a b same = set.same_set nat_cmp_total set.nat_cmp-IsAntisymmetric a b same

-- the members of a filtered set are those that pass the test
pub contains-kept : (a : NumberSet) (p : ℕ → Bool) (q : ℕ) → set.contains (set.retain a p) q ≡ (set.contains a q && p q)
contains-kept a p q = set.contains-retain a p q (λ x tie. ap p (sym (set.nat_cmp-IsAntisymmetric q x tie)))

any-range : (from n q : ℕ) → list_any (λ y. nat_eq y q) (range_with_len from n) ≡ (nat_le from q && nat_lt q (from + n))
any-range from zero q = grind (arith, nat_tests)
any-range from (suc n) q = let rest = any-range (from + 1) n q in grind (arith, nat_tests)

-- the members of a range
pub contains-numbers : (from to q : ℕ) → set.contains (numbers from to) q ≡ (nat_le from q && nat_lt q to)
unfolding numbers
contains-numbers from to q =
    set.contains-from_list_nat (range_with_len from (to - from)) q
    ∙ any-range from (to - from) q ∙ grind (arith, nat_tests)

-- whether q is in a range
abbrev pub in_range : ℕ × ℕ → ℕ → Bool
in_range range q = nat_le range.0 q && nat_lt q range.1

-- whether q is in a range of the list
abbrev pub in_ranges : List (ℕ × ℕ) → ℕ → Bool
in_ranges ranges q = list_any (λ range. in_range range q) ranges

-- the members of a union of ranges
pub contains-set_of : (ranges : List (ℕ × ℕ)) (q : ℕ) → set.contains (set_of ranges) q ≡ in_ranges ranges q
unfolding set_of
contains-set_of [] q = set.contains-empty nat_cmp q
contains-set_of (range ∷ ranges) q =
    set.contains-union nat_cmp_total (numbers range.0 range.1) (set_of ranges) q
    ∙ (λ i. contains-numbers range.0 range.1 q i || contains-set_of ranges q i)

-- the members of two concatenated lists
pub in_ranges-append : (rs ss : List (ℕ × ℕ)) (q : ℕ) → in_ranges (rs ++ ss) q ≡ (in_ranges rs q || in_ranges ss q)
in_ranges-append rs ss q = list_any-append (λ range. in_range range q) rs ss

-- ---- Boolean algebra, for membership in one list or another

pub or_false : (b : Bool) → (b || false) ≡ b
or_false true = refl
or_false false = refl

pub or_assoc : (a b c : Bool) → ((a || b) || c) ≡ (a || (b || c))
or_assoc true b c = refl
or_assoc false b c = refl

pub and_false : (b : Bool) → (b && false) ≡ false
and_false true = refl
and_false false = refl
