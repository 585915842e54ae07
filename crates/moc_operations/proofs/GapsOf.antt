-- The gaps of a list of ranges.
use Rattle.std.proofs.Common.{◌≡◌, ℕ, zero, suc, ◌+◌, ◌<◌, ◌≤◌, Bool, true, false, not, ◌||◌, ◌&&◌, List, [], ◌∷◌}
use Rattle.std.proofs.Common.{◌++◌, max, take, drop, length, get_or, append_assoc, ◌⊎◌, inl, inr, refl, sym, ap, subst}
use Rattle.std.proofs.Common.{◌∙◌, arith}
use Rattle.std.specs.Prelude.{nat_le, nat_lt}
use Rattle.std.proofs.lemmas.Bool.{cases_lt}
use Rattle.std.proofs.lemmas.Bool.Decides.{nat_tests}
use Rattle.moc_blocks.specs.RangeList.{IsNormal, BeginsAfter}
use Rattle.moc_blocks.specs.Lemmas.Members.{in_ranges, in_ranges-append}
use Rattle.moc_blocks.specs.Private.Blocks.{next_of}
use Rattle.moc_blocks.specs.Private.Built.{EndsBelow}
use Rattle.moc_blocks.specs.Private.Walks.{EndsBy, Skips}
use Rattle.moc_blocks.specs.Lemmas.Ranges.{later_only}
use Rattle.moc_operations.specs.Private.Meeting.{IsAscending, CanIntersect, Intersects, SkipsBelow, gaps_before, gaps_of, end_of}
use Rattle.moc_blocks.proofs.Blocking.{IsNormal-suffix, append_empty}
use Rattle.moc_blocks.proofs.Merging.{ends_next, EndsBelow-append, EndsBelow-more}
use Rattle.moc_operations.proofs.Merging.{next_of_suffix}
use Rattle.moc_operations.proofs.Views.{normal_below}
use Rattle.moc_operations.proofs.InCommon.{normal_from}

pub length_gaps : (low : ℕ) (rs : List (ℕ × ℕ)) → length (gaps_before low rs) ≡ length rs
length_gaps low [] = refl
length_gaps low (r ∷ rs) = omega (arith, length_gaps r.1 rs)

-- the gap at a position
pub gap_at : (low : ℕ) (rs : List (ℕ × ℕ)) (i : ℕ) → i < length rs → get_or (gaps_before low rs) i (0, 0) ≡ (end_of low (take i rs), (get_or rs i (0, 0)).0)
gap_at low [] i lt = absurd (omega arith)
gap_at low (r ∷ rs) zero lt = refl
gap_at low (r ∷ rs) (suc i) lt = gap_at r.1 rs i (omega arith)

-- what precedes the gap at a position ends where the range before it does
pub end_before : (low : ℕ) (rs : List (ℕ × ℕ)) (i : ℕ) → i < length rs → end_of low (take (suc i) rs) ≡ (get_or rs i (0, 0)).1
end_before low [] i lt = absurd (omega arith)
end_before low (r ∷ rs) zero lt = refl
end_before low (r ∷ rs) (suc i) lt = end_before r.1 rs i (omega arith)

gaps-append : (low : ℕ) (rs ss : List (ℕ × ℕ)) → gaps_of low (rs ++ ss) ≡ gaps_before low rs ++ gaps_of (end_of low rs) ss
gaps-append low [] ss = refl
gaps-append low (r ∷ rs) ss = ap (λ (l : List (ℕ × ℕ)). (low, r.0) ∷ l) (gaps-append r.1 rs ss)

drop_gaps : (low : ℕ) (rs : List (ℕ × ℕ)) (i : ℕ) → drop i (gaps_before low rs) ≡ gaps_before (end_of low (take i rs)) (drop i rs)
drop_gaps low rs zero = refl
drop_gaps low [] (suc i) = refl
drop_gaps low (r ∷ rs) (suc i) = drop_gaps r.1 rs i

end_parts : (low : ℕ) (rs : List (ℕ × ℕ)) (i : ℕ) → end_of low rs ≡ end_of (end_of low (take i rs)) (drop i rs)
end_parts low rs zero = refl
end_parts low [] (suc i) = refl
end_parts low (r ∷ rs) (suc i) = end_parts r.1 rs i

pub gaps_split : (low : ℕ) (rs tail whole : List (ℕ × ℕ)) → rs ++ tail ≡ whole → gaps_of low whole ≡ gaps_before low rs ++ gaps_of (end_of low rs) tail
gaps_split low rs tail whole is = ap (λ l. gaps_of low l) (sym is) ∙ gaps-append low rs tail

-- the gaps from a position on
pub gaps_left : (low : ℕ) (rs tail : List (ℕ × ℕ)) (i : ℕ) → drop i (gaps_before low rs) ++ gaps_of (end_of low rs) tail ≡ gaps_of (end_of low (take i rs)) (drop i rs ++ tail)
gaps_left low rs tail i =
    (λ k. drop_gaps low rs i k ++ gaps_of (end_parts low rs i k) tail)
    ∙ sym (gaps-append (end_of low (take i rs)) (drop i rs) tail)

begins_gap : (x low : ℕ) (rs : List (ℕ × ℕ)) → x < low → BeginsAfter x (gaps_of low rs)
begins_gap x low [] lt = lt
begins_gap x low (r ∷ rs) lt = lt

pub next_of_gaps : (low : ℕ) (rs : List (ℕ × ℕ)) → next_of (gaps_of low rs) ≡ low
next_of_gaps low [] = refl
next_of_gaps low (r ∷ rs) = refl

abbrev pub gap_rest : List (ℕ × ℕ) → List (ℕ × ℕ)
gap_rest [] = []
gap_rest (r ∷ rs) = gaps_of r.1 rs

pub first_gap : (low next : ℕ) (rs : List (ℕ × ℕ)) → next ≡ next_of rs → gaps_of low rs ≡ (low, next) ∷ gap_rest rs
first_gap low next [] is = ap (λ n. (low, n) ∷ []) (sym is)
first_gap low next (r ∷ rs) is = ap (λ n. (low, n) ∷ gaps_of r.1 rs) (sym is)

pub ascending_gaps : (low : ℕ) (rs : List (ℕ × ℕ)) → IsNormal rs → low ≤ next_of rs → IsAscending (gaps_of low rs)
ascending_gaps low [] normal le = (le, tt, tt)
ascending_gaps low (r ∷ rs) normal le =
    let next : r.1 < next_of rs = (ends_next (r ∷ []) rs normal).0 in
    (le, begins_gap r.0 r.1 rs normal.0, ascending_gaps r.1 rs normal.3 (omega arith))

pub ascending_gaps_low : (low : ℕ) (rs : List (ℕ × ℕ)) → IsAscending (gaps_of low rs) → low ≤ next_of rs
ascending_gaps_low low [] ascending = ascending.0
ascending_gaps_low low (r ∷ rs) ascending = ascending.0

before_both : (low a b q : ℕ) (more rest : Bool) → low ≤ a → a < b → q < b → more ≡ false → rest ≡ (nat_le b q && not more) → ((nat_le low q && nat_lt q a) || rest) ≡ (nat_le low q && not ((nat_le a q && nat_lt q b) || more))
before_both low a b q more rest le lt early none is = grind (arith, nat_tests)

gap_after_both : (low a b q : ℕ) (more rest : Bool) → low ≤ a → a < b → b ≤ q → rest ≡ (nat_le b q && not more) → ((nat_le low q && nat_lt q a) || rest) ≡ (nat_le low q && not ((nat_le a q && nat_lt q b) || more))
gap_after_both low a b q more rest le lt late is = grind (arith, nat_tests)

no_gap : (low q : ℕ) → q < 18446744073709551615 → ((nat_le low q && nat_lt q 18446744073709551615) || false) ≡ (nat_le low q && true)
no_gap low q lt = grind (arith, nat_tests)

-- a number is in a gap if it is in no range
pub in_gaps : (low : ℕ) (rs : List (ℕ × ℕ)) (q : ℕ) → IsNormal rs → low ≤ next_of rs → q < 18446744073709551615 → in_ranges (gaps_of low rs) q ≡ (nat_le low q && not (in_ranges rs q))
in_gaps low [] q normal le lt = no_gap low q lt
in_gaps low (r ∷ rs) q normal le lt =
    let next : r.1 < next_of rs = (ends_next (r ∷ []) rs normal).0 in
    let rest = in_gaps r.1 rs q normal.3 (omega arith) lt in
    elim (cases_lt q r.1) [
      | inl early ↦ before_both low r.0 r.1 q (in_ranges rs q) (in_ranges (gaps_of r.1 rs) q) le normal.0 early (later_only r.1 q rs normal.3 normal.2 (omega arith)) rest
      | inr late ↦ gap_after_both low r.0 r.1 q (in_ranges rs q) (in_ranges (gaps_of r.1 rs) q) le normal.0 late rest
    ]

and_same : (a b c : Bool) → (a ≡ true → b ≡ c) → (a && b) ≡ (a && c)
and_same true b c is = is refl
and_same false b c is = refl

from_start : (q : ℕ) (b : Bool) → (nat_le 0 q && b) ≡ b
from_start q b = grind (arith, nat_tests)

-- the numbers of a list in the gaps of another list are those that the other list does not have
pub common_gaps : (xs ys : List (ℕ × ℕ)) (q : ℕ) → IsNormal xs → IsNormal ys → (in_ranges xs q && in_ranges (gaps_of 0 ys) q) ≡ (in_ranges xs q && not (in_ranges ys q))
common_gaps xs ys q nx ny = and_same (in_ranges xs q) (in_ranges (gaps_of 0 ys) q) (not (in_ranges ys q)) (λ here.
    let lt = normal_below xs q nx here in
    in_gaps 0 ys q ny (omega arith) (omega arith) ∙ from_start q (not (in_ranges ys q)))

next_small : (rs : List (ℕ × ℕ)) → IsNormal rs → next_of rs ≤ 18446744073709551615
next_small [] normal = omega arith
next_small (r ∷ rs) normal = omega (arith, normal.0, normal.1)

below_by : (limit : ℕ) (rs : List (ℕ × ℕ)) → EndsBy limit rs → EndsBelow (limit + 1) rs
below_by limit [] ended = tt
below_by limit (r ∷ rs) ended = (omega (arith, ended.0), below_by limit rs ended.1)

-- ranges of the other list that end at or before the start of a list's next range were skipped
none_past : (limit q : ℕ) (rs : List (ℕ × ℕ)) → EndsBelow (limit + 1) rs → limit ≤ q → in_ranges rs q ≡ false
none_past limit q [] below le = refl
none_past limit q (r ∷ rs) below le = let rest = none_past limit q rs below.1 le in let end = below.0 in grind (arith, nat_tests)

from_first : (rs : List (ℕ × ℕ)) (q : ℕ) → IsNormal rs → in_ranges rs q ≡ true → next_of rs ≤ q
from_first rs q normal here =
    subst (λ (l : List (ℕ × ℕ)). next_of l ≤ q) (append_empty rs) (normal_from rs [] q (subst IsNormal (sym (append_empty rs)) normal) here)

pub skipped_below_limit : (limit : ℕ) (xs xs' : List (ℕ × ℕ)) (n : ℕ) → Skips (limit, limit) xs xs' n → SkipsBelow (limit + 1) xs xs'
skipped_below_limit limit xs xs' n p = record { removed = p.removed; parts = p.parts; below = below_by limit p.removed p.ended }

pub left_more : (f g : ℕ) (xs xs' xs'' : List (ℕ × ℕ)) → SkipsBelow f xs xs' → f ≤ g → SkipsBelow g xs' xs'' → SkipsBelow g xs xs''
left_more f g xs xs' xs'' a le b = record {
  removed = a.removed ++ b.removed;
  parts = a.parts ∙ ap (λ (l : List (ℕ × ℕ)). a.removed ++ l) b.parts ∙ sym (append_assoc a.removed b.removed xs'');
  below = EndsBelow-append g a.removed b.removed (EndsBelow-more f g a.removed a.below le) b.below;
}

pub left_weaker : (f g : ℕ) (xs xs' : List (ℕ × ℕ)) → SkipsBelow f xs xs' → f ≤ g → SkipsBelow g xs xs'
left_weaker f g xs xs' a le = record { removed = a.removed; parts = a.parts; below = EndsBelow-more f g a.removed a.below le }

gaps_grow : (xs ys ys' : List (ℕ × ℕ)) (low from q : ℕ) → IsNormal xs → IsNormal ys → low ≤ next_of ys → from ≡ next_of xs → SkipsBelow (from + 1) ys ys' → (in_ranges xs q && in_ranges (gaps_of low ys') q) ≡ (in_ranges xs q && in_ranges (gaps_of low ys) q)
gaps_grow xs ys ys' low from q nx ny le is l = and_same (in_ranges xs q) (in_ranges (gaps_of low ys') q) (in_ranges (gaps_of low ys) q) (λ here.
    let lt = normal_below xs q nx here in
    let past = from_first xs q nx here in
    let whole = subst IsNormal l.parts ny in
    let later : next_of ys ≤ next_of ys' = omega (arith, ap next_of l.parts, next_of_suffix l.removed ys' whole) in
    let none = none_past from q l.removed l.below (omega arith) in
    let same : in_ranges ys q ≡ in_ranges ys' q = ap (λ (k : List (ℕ × ℕ)). in_ranges k q) l.parts ∙ in_ranges-append l.removed ys' q ∙ ap (λ b. b || in_ranges ys' q) none in
    in_gaps low ys' q (IsNormal-suffix l.removed ys' whole) (omega arith) (omega arith)
    ∙ ap (λ b. nat_le low q && not b) (sym same)
    ∙ sym (in_gaps low ys q ny le (omega arith)))

pub intersects_gaps_after_skip : (ks xs ys ys' : List (ℕ × ℕ)) (low from : ℕ) → CanIntersect xs (gaps_of low ys) ks → IsNormal ys → from ≡ next_of xs → SkipsBelow (from + 1) ys ys' → Intersects xs xs (gaps_of low ys) (gaps_of low ys') ks ks
intersects_gaps_after_skip ks xs ys ys' low from can ny is l =
    let whole = subst IsNormal l.parts ny in
    let le = ascending_gaps_low low ys can.second_ascending in
    let later : next_of ys ≤ next_of ys' = omega (arith, ap next_of l.parts, next_of_suffix l.removed ys' whole) in
    record {
      can = record {
        built = can.built;
        first_normal = can.first_normal;
        second_ascending = ascending_gaps low ys' (IsNormal-suffix l.removed ys' whole) (omega arith);
        below = EndsBelow-more (max (next_of xs) (next_of (gaps_of low ys))) (max (next_of xs) (next_of (gaps_of low ys'))) ks can.below (omega (arith, next_of_gaps low ys, next_of_gaps low ys'));
      };
      same = λ q. ap (λ k. in_ranges ks q || k) (gaps_grow xs ys ys' low from q can.first_normal ny le is l);
    }

-- one list has no more ranges
pub can_end : (ks xs ys : List (ℕ × ℕ)) (low : ℕ) → CanIntersect xs (gaps_of low ys) ks → IsNormal ys → CanIntersect xs (gaps_of low []) ks
can_end ks xs ys low can ny =
    let le = ascending_gaps_low low ys can.second_ascending in
    record {
      built = can.built;
      first_normal = can.first_normal;
      second_ascending = (omega (arith, le, next_small ys ny), tt, tt);
      below = EndsBelow-more (max (next_of xs) (next_of (gaps_of low ys))) (max (next_of xs) low) ks can.below (omega (arith, next_of_gaps low ys));
    }

gap_at_either_end : (xs ys : List (ℕ × ℕ)) (low q : ℕ) → (xs ≡ []) ⊎ (ys ≡ []) → (in_ranges xs q && in_ranges (gaps_of low []) q) ≡ (in_ranges xs q && in_ranges (gaps_of low ys) q)
gap_at_either_end xs ys low q ended = elim ended [
  | inl none ↦ ap (λ (l : List (ℕ × ℕ)). in_ranges l q && in_ranges (gaps_of low []) q) none ∙ ap (λ (l : List (ℕ × ℕ)). in_ranges l q && in_ranges (gaps_of low ys) q) (sym none)
  | inr none ↦ ap (λ (l : List (ℕ × ℕ)). in_ranges xs q && in_ranges (gaps_of low l) q) (sym none)
]

pub difference_of_common_gaps : (ks written xs xs' ys ys' : List (ℕ × ℕ)) (low : ℕ) → IsNormal xs → IsNormal ys → Intersects xs xs' (gaps_of 0 ys) (gaps_of low ys') [] ks → (xs' ≡ []) ⊎ (ys' ≡ []) → ((q : ℕ) → in_ranges written q ≡ (in_ranges ks q || (in_ranges xs' q && in_ranges (gaps_of low []) q))) → (q : ℕ) → in_ranges written q ≡ (in_ranges xs q && not (in_ranges ys q))
difference_of_common_gaps ks written xs xs' ys ys' low nx ny m ended made_is q =
    made_is q ∙ ap (λ k. in_ranges ks q || k) (gap_at_either_end xs' ys' low q ended) ∙ m.same q ∙ common_gaps xs ys q nx ny
