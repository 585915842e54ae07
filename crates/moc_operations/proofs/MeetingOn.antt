-- The intersection of two lists of ranges, step by step.
use Rattle.std.proofs.Common.{◌≡◌, ℕ, ◌+◌, ◌-◌, ◌<◌, ◌≤◌, Bool, false, ◌||◌, ◌&&◌, List, [], ◌∷◌, ◌++◌, min, max}
use Rattle.std.proofs.Common.{take, drop, length, get_or, slice_set, inl, inr, refl, sym, ap, subst, ◌∙◌, arith}
use Rattle.std.proofs.Common.{append_assoc, length-append, ◌⊎◌}
use Rattle.std.specs.Prelude.{nat_le, nat_lt, Option, None, Some, MatchOption, IfSome}
use mir.Val.{bool_byte}
use Rattle.std.proofs.lemmas.Bool.{cases_lt, lt-ltb}
use Rattle.std.proofs.lemmas.Bool.Decides.{nat_tests}
use Rattle.std.proofs.lemmas.List.{drop_more, length-drop, take-set, take-append-drop, take_all}
use Rattle.std.proofs.lemmas.Grind.{take-set_at}
use Rattle.moc_blocks.specs.RangeList.{pixel_count, IsNormal}
use Rattle.moc_blocks.specs.Lemmas.Members.{in_range, in_ranges, or_false, or_assoc, and_false}
use Rattle.moc_blocks.specs.Private.Blocks.{last_of, next_of}
use Rattle.moc_blocks.specs.Private.Built.{EndsBelow}
use Rattle.moc_operations.specs.Private.Taking.{AddsPart, MovesCommon}
use Rattle.moc_blocks.specs.Private.Walks.{EndsBy}
use Rattle.moc_operations.specs.Private.Meeting.{IsAscending, list_if, CanIntersect, Intersects, SkipsBelow}
use Rattle.moc_blocks.proofs.Blocking.{IsNormal-prefix, IsNormal-suffix, IsNormal-rest, append_empty}
use Rattle.moc_blocks.proofs.Merging.{ends_by_last, ends_next, EndsBelow-more}
use Rattle.moc_operations.proofs.Merging.{next_of_suffix}
use Rattle.moc_blocks.proofs.Building.{pushed_normal}
use Rattle.moc_operations.proofs.Walking.{and_swap}
use Rattle.moc_operations.proofs.InCommon.{ascending_of_normal, moves_common_at_end, ascending_overlap, pieces_back, common_parts}
use Rattle.moc_operations.proofs.InCommon.{common_below, empty_common_range}
use Rattle.moc_blocks.proofs.Basics.{common_same}

-- a range after those that were written
lt_byte : (a b n : ℕ) → n ≡ bool_byte (nat_lt a b) → a < b → n ≡ 1
lt_byte a b n e l = grind (arith, nat_tests, e)

no_lt_byte : (a b n : ℕ) → n ≡ bool_byte (nat_lt a b) → b ≤ a → n ≡ 0
no_lt_byte a b n e l = grind (arith, nat_tests, e)

no_lt : (a b : ℕ) → b ≤ a → nat_lt a b ≡ false
no_lt a b le = grind (arith, nat_tests)

pub written_range_at_index : (out : List (ℕ × ℕ)) (written from to n : ℕ) → written < length out → n ≡ bool_byte (nat_lt from to) → take (written + n) (slice_set out written (from, to)) ≡ take written out ++ list_if (nat_lt from to) (from, to)
written_range_at_index out written from to n buffer e = elim (cases_lt from to) [
  | inl lt ↦
      let one = lt_byte from to n e lt in
      take-set_at out written (written + n) (from, to) (omega arith) buffer ∙ ap (λ b. take written out ++ list_if b (from, to)) (sym (lt-ltb from to lt))
  | inr ge ↦
      let none = no_lt_byte from to n e ge in
      let at : written + n ≡ written = omega arith in
      ap (λ k. take k (slice_set out written (from, to))) at ∙ take-set out written (from, to)
      ∙ sym (append_empty (take written out)) ∙ ap (λ b. take written out ++ list_if b (from, to)) (sym (no_lt from to ge))
]

adds_range : (ks : List (ℕ × ℕ)) (from to : ℕ) → IsNormal ks → to ≤ pixel_count → EndsBelow from ks → from < to → AddsPart from to ks (ks ++ (from, to) ∷ [])
adds_range ks from to normal within after lt = record {
  built = pushed_normal ks (from, to) normal lt within after;
  below = λ f le l. common_below ks _ from to from to f after refl refl refl le l;
  same = λ q. common_same ks _ from to from to q refl refl refl;
}

adds_none : (ks : List (ℕ × ℕ)) (from to : ℕ) → IsNormal ks → EndsBelow from ks → to ≤ from → AddsPart from to ks ks
adds_none ks from to normal after le = record {
  built = normal;
  below = λ f more l. EndsBelow-more from f ks after more;
  same = λ q. empty_common_range ks from to from to q refl refl le;
}

adds_part_if_nonempty : (ks : List (ℕ × ℕ)) (from to : ℕ) → IsNormal ks → to ≤ pixel_count → EndsBelow from ks → AddsPart from to ks (ks ++ list_if (nat_lt from to) (from, to))
adds_part_if_nonempty ks from to normal within after = elim (cases_lt from to) [
  | inl lt ↦ subst (λ (b : Bool). AddsPart from to ks (ks ++ list_if b (from, to))) (sym (lt-ltb from to lt)) (adds_range ks from to normal within after lt)
  | inr ge ↦ subst (λ (b : Bool). AddsPart from to ks (ks ++ list_if b (from, to))) (sym (no_lt from to ge))
      (subst (λ (l : List (ℕ × ℕ)). AddsPart from to ks l) (sym (append_empty ks)) (adds_none ks from to normal after ge))
]

adds_part_if_appended : (before written written' : List (ℕ × ℕ)) (from to : ℕ) → written' ≡ written ++ list_if (nat_lt from to) (from, to) → IsNormal (before ++ written) → to ≤ pixel_count → EndsBelow from (before ++ written) → AddsPart from to (before ++ written) (before ++ written')
adds_part_if_appended before written written' from to is normal within after =
    subst (λ (l : List (ℕ × ℕ)). AddsPart from to (before ++ written) l)
    (append_assoc before written (list_if (nat_lt from to) (from, to)) ∙ ap (λ (l : List (ℕ × ℕ)). before ++ l) (sym is))
    (adds_part_if_nonempty (before ++ written) from to normal within after)

-- the common part of the range that ends first and the other list's next range was written
next_after : (r : ℕ × ℕ) (rs : List (ℕ × ℕ)) → IsAscending (r ∷ rs) → r.1 < 18446744073709551615 → r.1 < next_of rs
next_after r [] ascending lt = lt
next_after r (s ∷ rs) ascending lt = ascending.1

pub meets_first : (ks ks' xs ys : List (ℕ × ℕ)) (x y : ℕ × ℕ) (from to : ℕ) → CanIntersect (x ∷ xs) (y ∷ ys) ks → x.1 ≤ y.1 → from ≡ max x.0 y.0 → to ≡ min x.1 y.1 → AddsPart from to ks ks' → Intersects (x ∷ xs) xs (y ∷ ys) (y ∷ ys) ks ks'
meets_first ks ks' xs ys x y from to s ends is_from is_to a =
    let next : x.1 < next_of xs = (ends_next (x ∷ []) xs s.first_normal).0 in
    let filled : x.0 < x.1 = s.first_normal.0 in
    record {
      can = record {
        built = a.built;
        first_normal = s.first_normal.3;
        second_ascending = s.second_ascending;
        below = a.below (max (next_of xs) y.0) (omega arith) (omega arith);
      };
      same = λ q. ap (λ k. k || (in_ranges xs q && in_ranges (y ∷ ys) q)) (a.same q)
          ∙ or_assoc (in_ranges ks q) (in_range (from, to) q) (in_ranges xs q && in_ranges (y ∷ ys) q)
          ∙ ap (λ k. in_ranges ks q || k) (sym (ascending_overlap x y xs ys from to q s.second_ascending ends is_from is_to));
    }

meets_second : (ks ks' xs ys : List (ℕ × ℕ)) (x y : ℕ × ℕ) (from to : ℕ) → CanIntersect (x ∷ xs) (y ∷ ys) ks → y.1 ≤ x.1 → from ≡ max x.0 y.0 → to ≡ min x.1 y.1 → AddsPart from to ks ks' → Intersects (x ∷ xs) (x ∷ xs) (y ∷ ys) ys ks ks'
meets_second ks ks' xs ys x y from to s ends is_from is_to a =
    let within : x.1 ≤ pixel_count = s.first_normal.1 in
    let next : y.1 < next_of ys = next_after y ys s.second_ascending (omega arith) in
    let increases : y.0 ≤ y.1 = s.second_ascending.0 in
    record {
      can = record {
        built = a.built;
        first_normal = s.first_normal;
        second_ascending = s.second_ascending.2;
        below = a.below (max x.0 (next_of ys)) (omega arith) (omega arith);
      };
      same = λ q. ap (λ k. k || (in_ranges (x ∷ xs) q && in_ranges ys q)) (a.same q)
          ∙ or_assoc (in_ranges ks q) (in_range (from, to) q) (in_ranges (x ∷ xs) q && in_ranges ys q)
          ∙ ap (λ k. in_ranges ks q || k) (sym (pieces_back x y xs ys from to q s.first_normal ends is_from is_to));
    }

pub meets_none : (xs ys ks : List (ℕ × ℕ)) → CanIntersect xs ys ks → Intersects xs xs ys ys ks ks
meets_none xs ys ks can = record { can = can; same = λ q. refl }

pub meets_more : (xs xs' xs'' ys ys' ys'' ks ks' ks'' : List (ℕ × ℕ)) → Intersects xs xs' ys ys' ks ks' → Intersects xs' xs'' ys' ys'' ks' ks'' → Intersects xs xs'' ys ys'' ks ks''
meets_more xs xs' xs'' ys ys' ys'' ks ks' ks'' m n = record { can = n.can; same = λ q. n.same q ∙ m.same q }

pub meets_as : (xs us xs' us' ys vs ys' vs' ks ks' : List (ℕ × ℕ)) → xs ≡ us → xs' ≡ us' → ys ≡ vs → ys' ≡ vs' → Intersects xs xs' ys ys' ks ks' → Intersects us us' vs vs' ks ks'
meets_as xs us xs' us' ys vs ys' vs' ks ks' a b c d m =
    subst (λ (l : List (ℕ × ℕ)). Intersects l us' vs vs' ks ks') a
    (subst (λ (l : List (ℕ × ℕ)). Intersects xs l vs vs' ks ks') b
    (subst (λ (l : List (ℕ × ℕ)). Intersects xs xs' l vs' ks ks') c
    (subst (λ (l : List (ℕ × ℕ)). Intersects xs xs' ys l ks ks') d m)))

pub can_as : (xs us ys vs ks : List (ℕ × ℕ)) → xs ≡ us → ys ≡ vs → CanIntersect xs ys ks → CanIntersect us vs ks
can_as xs us ys vs ks a b can =
    subst (λ (l : List (ℕ × ℕ)). CanIntersect l vs ks) a (subst (λ (l : List (ℕ × ℕ)). CanIntersect xs l ks) b can)

-- two slices, from positions on, and the ranges after them
le_byte : (a b n : ℕ) → n ≡ bool_byte (nat_le a b) → a ≤ b → n ≡ 1
le_byte a b n e l = grind (arith, nat_tests, e)

no_le_byte : (a b n : ℕ) → n ≡ bool_byte (nat_le a b) → b < a → n ≡ 0
no_le_byte a b n e l = grind (arith, nat_tests, e)

pub small_byte : (a b n : ℕ) → n ≡ bool_byte (nat_le a b) → n ≤ 1
small_byte a b n e = elim (cases_lt b a) [ inl l ↦ omega (arith, no_le_byte a b n e l) | inr g ↦ omega (arith, le_byte a b n e g) ]

from_place : (xs tail : List (ℕ × ℕ)) (i : ℕ) (x : ℕ × ℕ) → i < length xs → x ≡ get_or xs i (0, 0) → drop i xs ++ tail ≡ x ∷ (drop (i + 1) xs ++ tail)
from_place xs tail i x lt is = ap (λ (l : List (ℕ × ℕ)). l ++ tail) (drop_more xs i (0, 0) lt) ∙ ap (λ (r : ℕ × ℕ). r ∷ (drop (i + 1) xs ++ tail)) (sym is)

at_place : (xs tail : List (ℕ × ℕ)) (i j : ℕ) → i ≡ j → drop i xs ++ tail ≡ drop j xs ++ tail
at_place xs tail i j is = ap (λ n. drop n xs ++ tail) is

pub intersects_next : (xs ys bx by before written written' : List (ℕ × ℕ)) (i j t from to : ℕ) (x y : ℕ × ℕ) → CanIntersect (drop i xs ++ bx) (drop j ys ++ by) (before ++ written) → i < length xs → j < length ys
    → x ≡ get_or xs i (0, 0) → y ≡ get_or ys j (0, 0) → from ≡ max x.0 y.0 → to ≡ min x.1 y.1 → t ≡ bool_byte (nat_le x.1 y.1) → written' ≡ written ++ list_if (nat_lt from to) (from, to)
    → Intersects (drop i xs ++ bx) (drop (i + t) xs ++ bx) (drop j ys ++ by) (drop (j + (1 - t)) ys ++ by) (before ++ written) (before ++ written')
intersects_next xs ys bx by before written written' i j t from to x y can l m is_x is_y is_from is_to is_step is =
    let at_x = from_place xs bx i x l is_x in
    let at_y = from_place ys by j y m is_y in
    let s = can_as _ _ _ _ _ at_x at_y can in
    let within : to ≤ pixel_count = omega (arith, s.first_normal.1) in
    let after : EndsBelow from (before ++ written) = subst (λ n. EndsBelow n (before ++ written)) (sym is_from) s.below in
    let a = adds_part_if_appended before written written' from to is s.built within after in
    elim (cases_lt y.1 x.1) [
      | inr le ↦
          let one = le_byte x.1 y.1 t is_step le in
          meets_as _ _ _ _ _ _ _ _ _ _ (sym at_x) (at_place xs bx (i + 1) (i + t) (omega arith)) (sym at_y) (sym at_y ∙ at_place ys by j (j + (1 - t)) (omega arith))
          (meets_first _ _ (drop (i + 1) xs ++ bx) (drop (j + 1) ys ++ by) x y from to s le is_from is_to a)
      | inl lt ↦
          let none = no_le_byte x.1 y.1 t is_step lt in
          meets_as _ _ _ _ _ _ _ _ _ _ (sym at_x) (sym at_x ∙ at_place xs bx i (i + t) (omega arith)) (sym at_y) (at_place ys by (j + 1) (j + (1 - t)) (omega arith))
          (meets_second _ _ (drop (i + 1) xs ++ bx) (drop (j + 1) ys ++ by) x y from to s (omega arith) is_from is_to a)
    ]

pub intersects_nothing : (xs ys bx by before : List (ℕ × ℕ)) → CanIntersect (xs ++ bx) (ys ++ by) before → Intersects (xs ++ bx) (xs ++ bx) (ys ++ by) (ys ++ by) before (before ++ [])
intersects_nothing xs ys bx by before can =
    subst (λ (k : List (ℕ × ℕ)). Intersects (xs ++ bx) (xs ++ bx) (ys ++ by) (ys ++ by) before k) (sym (append_empty before)) (meets_none (xs ++ bx) (ys ++ by) before can)

-- the rest of a slice, and the ranges after it
pub rest_is : (rs tail : List (ℕ × ℕ)) (i : ℕ) → take (length rs - i) (drop i rs) ++ tail ≡ drop i rs ++ tail
rest_is rs tail i = ap (λ (l : List (ℕ × ℕ)). l ++ tail) (take_all (length rs - i) (drop i rs) (omega (arith, length-drop i rs)))

pub rest_normal : (rs tail whole : List (ℕ × ℕ)) (i : ℕ) → rs ++ tail ≡ whole → IsNormal whole → IsNormal (take (length rs - i) (drop i rs) ++ tail)
rest_normal rs tail whole i is normal =
    subst IsNormal (sym (rest_is rs tail i)) (IsNormal-rest rs (take i rs) (drop i rs) tail (sym (take-append-drop i rs)) (subst IsNormal (sym is) normal))

pub rest_shorter : (rs tail whole left : List (ℕ × ℕ)) (i : ℕ) → i ≤ length rs → rs ++ tail ≡ whole → left ≡ take (length rs - i) (drop i rs) ++ tail → length left + i ≡ length whole
rest_shorter rs tail whole left i le is left_is =
    omega (arith, le, ap length (left_is ∙ rest_is rs tail i), length-append (drop i rs) tail, length-drop i rs, ap length is, length-append rs tail)

-- slices of two lists were intersected, and the lists continue after the ranges that were passed
pub intersects_at_range : (xs ys bx by whole_xs whole_ys before written : List (ℕ × ℕ)) (i j : ℕ) → xs ++ bx ≡ whole_xs → ys ++ by ≡ whole_ys → CanIntersect whole_xs whole_ys before
    → ((before' bx' by' : List (ℕ × ℕ)) → CanIntersect (xs ++ bx') (ys ++ by') before' → Intersects (xs ++ bx') (drop i xs ++ bx') (ys ++ by') (drop j ys ++ by') before' (before' ++ written))
    → Intersects whole_xs (drop i xs ++ bx) whole_ys (drop j ys ++ by) before (before ++ written)
intersects_at_range xs ys bx by whole_xs whole_ys before written i j ex ey can met =
    meets_as _ _ _ _ _ _ _ _ _ _ ex refl ey refl (met before bx by (can_as _ _ _ _ _ (sym ex) (sym ey) can))

pub intersects_from_start : (xs ys bx by whole_xs whole_ys us vs before after written : List (ℕ × ℕ)) (i j : ℕ) → xs ++ bx ≡ whole_xs → ys ++ by ≡ whole_ys → CanIntersect whole_xs whole_ys before
    → ((before' bx' by' : List (ℕ × ℕ)) → CanIntersect (xs ++ bx') (ys ++ by') before' → Intersects (xs ++ bx') (drop i xs ++ bx') (ys ++ by') (drop j ys ++ by') before' (before' ++ written))
    → us ≡ drop i xs ++ bx → vs ≡ drop j ys ++ by → after ≡ before ++ written → Intersects whole_xs us whole_ys vs before after
intersects_from_start xs ys bx by whole_xs whole_ys us vs before after written i j ex ey can met eu ev ea =
    subst (λ (l : List (ℕ × ℕ)). Intersects whole_xs us whole_ys vs before l) (sym ea)
    (meets_as _ _ _ _ _ _ _ _ _ _ refl (sym eu) refl (sym ev) (intersects_at_range xs ys bx by whole_xs whole_ys before written i j ex ey can met))

pub intersects_after_common_move : (ks ks' xs xs' ys rest : List (ℕ × ℕ)) (y : ℕ × ℕ) → CanIntersect xs ys ks → ys ≡ y ∷ rest → MovesCommon xs xs' y ks ks' → Intersects xs xs' ys ys ks ks'
intersects_after_common_move ks ks' xs xs' ys rest y can0 is t =
    let can = subst (λ (l : List (ℕ × ℕ)). CanIntersect xs l ks) is can0 in
    subst (λ (l : List (ℕ × ℕ)). Intersects xs xs' l l ks ks') (sym is) (record {
      can = record {
        built = t.built;
        first_normal = IsNormal-suffix t.removed xs' (subst IsNormal t.parts can.first_normal);
        second_ascending = can.second_ascending;
        below = t.below;
      };
      same = λ q. ap (λ k. k || (in_ranges xs' q && in_ranges (y ∷ rest) q)) (t.same q)
          ∙ or_assoc (in_ranges ks q) (in_ranges t.removed q && in_range y q) (in_ranges xs' q && in_ranges (y ∷ rest) q)
          ∙ ap (λ k. in_ranges ks q || k) (sym (common_parts t.removed xs' rest y q can.second_ascending t.ended) ∙ ap (λ (l : List (ℕ × ℕ)). in_ranges l q && in_ranges (y ∷ rest) q) (sym t.parts));
    })

-- ranges that end before the other list's next range were skipped
ends_by_low : (f : ℕ) (rs : List (ℕ × ℕ)) → EndsBelow f rs → EndsBy f rs
ends_by_low f [] below = tt
ends_by_low f (r ∷ rs) below = (omega (arith, below.0), ends_by_low f rs below.1)

pub skipped_below_taken : {A : Type 0} (ranges : A → List (ℕ × ℕ)) (taken : Option A) (limit : ℕ) (xs xs' : List (ℕ × ℕ)) → IsNormal xs → MatchOption taken (xs' ≡ xs) (λ r. xs ≡ ranges r ++ xs') → IfSome taken (λ r. last_of (ranges r) < limit) → SkipsBelow limit xs xs'
skipped_below_taken {A} ranges None limit xs xs' normal same below = record { removed = []; parts = sym same; below = tt }
skipped_below_taken {A} ranges (Some r) limit xs xs' normal parts below = record {
  removed = ranges r;
  parts = parts;
  below = ends_by_last limit (ranges r) (IsNormal-prefix (ranges r) xs' (subst IsNormal parts normal)) below;
}

meets_left_at : (ks xs xs' ys : List (ℕ × ℕ)) → CanIntersect xs ys ks → SkipsBelow (next_of ys) xs xs' → Intersects xs xs' ys ys ks ks
meets_left_at ks xs xs' [] can l = record {
  can = record {
    built = can.built;
    first_normal = IsNormal-suffix l.removed xs' (subst IsNormal l.parts can.first_normal);
    second_ascending = tt;
    below = EndsBelow-more (max (next_of xs) (next_of [])) (max (next_of xs') (next_of [])) ks can.below (omega (arith, ap next_of l.parts, next_of_suffix l.removed xs' (subst IsNormal l.parts can.first_normal)));
  };
  same = λ q. ap (λ k. in_ranges ks q || k) (and_false (in_ranges xs' q) ∙ sym (and_false (in_ranges xs q)));
}
meets_left_at ks xs xs' (y ∷ ys) can l =
    intersects_after_common_move ks ks xs xs' (y ∷ ys) ys y can refl (moves_common_at_end ks xs xs' l.removed y can.first_normal can.second_ascending.0 can.built can.below l.parts (ends_by_low y.0 l.removed l.below))

pub meets_left : (ks xs xs' ys : List (ℕ × ℕ)) (limit : ℕ) → CanIntersect xs ys ks → limit ≡ next_of ys → SkipsBelow limit xs xs' → Intersects xs xs' ys ys ks ks
meets_left ks xs xs' ys limit can is l = meets_left_at ks xs xs' ys can (subst (λ n. SkipsBelow n xs xs') is l)

pub left_normal : (xs xs' : List (ℕ × ℕ)) (limit : ℕ) → IsNormal xs → SkipsBelow limit xs xs' → IsNormal xs'
left_normal xs xs' limit normal l = IsNormal-suffix l.removed xs' (subst IsNormal l.parts normal)

pub left_shorter : (xs xs' : List (ℕ × ℕ)) (limit : ℕ) → SkipsBelow limit xs xs' → length xs' ≤ length xs
left_shorter xs xs' limit l = omega (arith, ap length l.parts, length-append l.removed xs')

-- with the lists exchanged
pub can_swap : (xs ys ks : List (ℕ × ℕ)) → CanIntersect xs ys ks → IsNormal ys → CanIntersect ys xs ks
can_swap xs ys ks can normal = record {
  built = can.built;
  first_normal = normal;
  second_ascending = ascending_of_normal xs can.first_normal;
  below = EndsBelow-more (max (next_of xs) (next_of ys)) (max (next_of ys) (next_of xs)) ks can.below (omega arith);
}

pub meets_swap : (xs xs' ys ys' ks ks' : List (ℕ × ℕ)) → Intersects xs xs' ys ys' ks ks' → IsNormal ys' → Intersects ys ys' xs xs' ks ks'
meets_swap xs xs' ys ys' ks ks' m normal = record {
  can = can_swap xs' ys' ks' m.can normal;
  same = λ q. ap (λ k. in_ranges ks' q || k) (and_swap (in_ranges ys' q) (in_ranges xs' q)) ∙ m.same q ∙ ap (λ k. in_ranges ks q || k) (and_swap (in_ranges xs q) (in_ranges ys q));
}

pub meets_left_both : (ks xs xs' ys ys' : List (ℕ × ℕ)) (f g : ℕ) → CanIntersect xs ys ks → IsNormal ys → f ≡ next_of ys → SkipsBelow f xs xs' → g ≡ next_of xs' → SkipsBelow g ys ys' → Intersects xs xs' ys ys' ks ks
meets_left_both ks xs xs' ys ys' f g can normal ef l eg m =
    let a = meets_left ks xs xs' ys f can ef l in
    let b = meets_left ks ys ys' xs' g (can_swap xs' ys ks a.can normal) eg m in
    meets_more _ _ _ _ _ _ _ _ _ a (meets_swap _ _ _ _ _ _ b a.can.first_normal)

pub meets_start : (xs ys ks : List (ℕ × ℕ)) → ks ≡ [] → IsNormal xs → IsAscending ys → Intersects xs xs ys ys [] ks
meets_start xs ys ks none normal ascending = subst (λ (k : List (ℕ × ℕ)). Intersects xs xs ys ys [] k) (sym none) (record {
  can = record { built = tt; first_normal = normal; second_ascending = ascending; below = tt };
  same = λ q. refl;
})

-- one list has no more ranges
pub intersection_complete : (xs xs' ys ys' ks : List (ℕ × ℕ)) → Intersects xs xs' ys ys' [] ks → (xs' ≡ []) ⊎ (ys' ≡ []) → (q : ℕ) → in_ranges ks q ≡ (in_ranges xs q && in_ranges ys q)
intersection_complete xs xs' ys ys' ks m ended q = elim ended [
  | inl none ↦ sym (or_false (in_ranges ks q)) ∙ ap (λ (l : List (ℕ × ℕ)). in_ranges ks q || (in_ranges l q && in_ranges ys' q)) (sym none) ∙ m.same q
  | inr none ↦ sym (or_false (in_ranges ks q)) ∙ ap (λ k. in_ranges ks q || k) (sym (and_false (in_ranges xs' q)))
      ∙ ap (λ (l : List (ℕ × ℕ)). in_ranges ks q || (in_ranges xs' q && in_ranges l q)) (sym none) ∙ m.same q
]
