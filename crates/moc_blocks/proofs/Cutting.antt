-- A list of ranges without the pixels of one range.
use Rattle.std.proofs.Common.{◌≡◌, ℕ, zero, suc, ◌<◌, ◌≤◌, Bool, true, false, cond, ◌||◌, ◌&&◌, min, max, inl, inr, List, [], ◌∷◌, ◌++◌}
use Rattle.std.proofs.Common.{length, take, drop, refl, sym, ap, subst, ◌∙◌, arith}
use Rattle.std.specs.Prelude.{not, nat_le, nat_lt, Result, Ok, Err, IfOk}
use Rattle.std.proofs.lemmas.Bool.{cases_Bool}
use Rattle.std.proofs.lemmas.Bool.Decides.{nat_tests}
use Rattle.std.proofs.lemmas.List.{take-append-drop}
use Rattle.moc_blocks.specs.RangeList.{pixel_count, BeginsAfter, IsNormal}
use Rattle.moc_blocks.specs.Lemmas.Members.{in_range, in_ranges, in_ranges-append}
use Rattle.moc_blocks.specs.Private.Blocks.{next_of, last_of}
use Rattle.moc_blocks.specs.Private.Built.{EndsBelow}
use Rattle.moc_blocks.specs.Private.Walks.{all_ranges, EndsBy, EndsAfterAt}
use Rattle.moc_blocks.specs.Private.Edits.{parts_below, parts_from, AreEditedRanges}
use Rattle.moc_blocks.specs.declared.edits.rebuild.EditKind.TheVariants.{Remove}
use Rattle.moc_blocks.proofs.Blocking.{IsNormal-prefix, IsNormal-suffix, append_empty}
use Rattle.moc_blocks.proofs.Passing.{all_ranges-ranges}
use Rattle.moc_blocks.proofs.Merging.{EndsBelow-append, normal_append}

pub is_less : (m n : ℕ) → m < n → nat_lt m n ≡ true
is_less m n lt = grind (arith, nat_tests)

pub not_less : (m n : ℕ) → n ≤ m → nat_lt m n ≡ false
not_less m n le = grind (arith, nat_tests)

less_of : (m n : ℕ) → nat_lt m n ≡ true → m < n
less_of m n is = grind (arith, nat_tests)

at_least_of : (m n : ℕ) → nat_lt m n ≡ false → n ≤ m
at_least_of m n is = grind (arith, nat_tests)

-- ---- the code's parts

-- ranges that end at or before the limit stay
pub below_kept : (limit : ℕ) (first after : List (ℕ × ℕ)) → IsNormal first → EndsBy limit first → parts_below limit (first ++ after) ≡ first ++ parts_below limit after
below_kept limit [] after normal ended = refl
below_kept limit (r ∷ first) after normal ended =
    let begins : nat_lt r.0 limit ≡ true = is_less r.0 limit (omega (arith, normal.0, ended.0)) in
    let whole : min r.1 limit ≡ r.1 = omega (arith, ended.0) in
    ap (λ b. cond b ((r.0, min r.1 limit) ∷ parts_below limit (first ++ after)) (parts_below limit (first ++ after))) begins
    ∙ (λ i. (r.0, whole i) ∷ below_kept limit first after normal.3 ended.1 i)

none_below : (limit x : ℕ) (rs : List (ℕ × ℕ)) → IsNormal rs → BeginsAfter x rs → limit ≤ x → parts_below limit rs ≡ []
none_below limit x [] normal after le = refl
none_below limit x (r ∷ rs) normal after le =
    ap (λ b. cond b ((r.0, min r.1 limit) ∷ parts_below limit rs) (parts_below limit rs)) (not_less r.0 limit (omega arith))
    ∙ none_below limit r.1 rs normal.3 normal.2 (omega (arith, normal.0))

pub below_first : (limit : ℕ) (r : ℕ × ℕ) (more : List (ℕ × ℕ)) → IsNormal (r ∷ more) → limit < r.1 → parts_below limit (r ∷ more) ≡ cond (nat_lt r.0 limit) ((r.0, limit) ∷ []) []
below_first limit r more normal past =
    let none = none_below limit r.1 more normal.3 normal.2 (omega arith) in
    let cut : min r.1 limit ≡ limit = omega arith in
    λ i. cond (nat_lt r.0 limit) ((r.0, cut i) ∷ none i) (none i)

-- ranges that end at or before the limit are dropped
pub from_dropped : (limit : ℕ) (first after : List (ℕ × ℕ)) → EndsBy limit first → parts_from limit (first ++ after) ≡ parts_from limit after
from_dropped limit [] after ended = refl
from_dropped limit (r ∷ first) after ended =
    ap (λ b. cond b ((max r.0 limit, r.1) ∷ parts_from limit (first ++ after)) (parts_from limit (first ++ after))) (not_less limit r.1 ended.0)
    ∙ from_dropped limit first after ended.1

all_from : (limit x : ℕ) (rs : List (ℕ × ℕ)) → IsNormal rs → BeginsAfter x rs → limit ≤ x → parts_from limit rs ≡ rs
all_from limit x [] normal after le = refl
all_from limit x (r ∷ rs) normal after le =
    let past : nat_lt limit r.1 ≡ true = is_less limit r.1 (omega (arith, normal.0)) in
    let whole : max r.0 limit ≡ r.0 = omega arith in
    ap (λ b. cond b ((max r.0 limit, r.1) ∷ parts_from limit rs) (parts_from limit rs)) past
    ∙ (λ i. (whole i, r.1) ∷ all_from limit r.1 rs normal.3 normal.2 (omega (arith, normal.0)) i)

pub from_first : (limit : ℕ) (r : ℕ × ℕ) (more : List (ℕ × ℕ)) → IsNormal (r ∷ more) → limit < r.1 → parts_from limit (r ∷ more) ≡ (max r.0 limit, r.1) ∷ more
from_first limit r more normal past =
    ap (λ b. cond b ((max r.0 limit, r.1) ∷ parts_from limit more) (parts_from limit more)) (is_less limit r.1 past)
    ∙ ap (λ (l : List (ℕ × ℕ)). (max r.0 limit, r.1) ∷ l) (all_from limit r.1 more normal.3 normal.2 (omega arith))

-- ---- the pixels

below_keeps : (low high limit q : ℕ) (b : Bool) → low < limit → (in_range (low, min high limit) q || (b && nat_lt q limit)) ≡ ((in_range (low, high) q || b) && nat_lt q limit)
below_keeps low high limit q b lt = grind (arith, nat_tests)

below_drops : (low high limit q : ℕ) (b : Bool) → limit ≤ low → (b && nat_lt q limit) ≡ ((in_range (low, high) q || b) && nat_lt q limit)
below_drops low high limit q b le = grind (arith, nat_tests)

below_same : (limit q : ℕ) (rs : List (ℕ × ℕ)) → in_ranges (parts_below limit rs) q ≡ (in_ranges rs q && nat_lt q limit)
below_same limit q [] = refl
below_same limit q (r ∷ rs) =
    elim (cases_Bool (nat_lt r.0 limit)) [
      | inl is ↦
          ap (λ b. in_ranges (cond b ((r.0, min r.1 limit) ∷ parts_below limit rs) (parts_below limit rs)) q) is
          ∙ ap (λ b. in_range (r.0, min r.1 limit) q || b) (below_same limit q rs)
          ∙ below_keeps r.0 r.1 limit q (in_ranges rs q) (less_of r.0 limit is)
      | inr not ↦
          ap (λ b. in_ranges (cond b ((r.0, min r.1 limit) ∷ parts_below limit rs) (parts_below limit rs)) q) not
          ∙ below_same limit q rs
          ∙ below_drops r.0 r.1 limit q (in_ranges rs q) (at_least_of r.0 limit not)
    ]

from_keeps : (low high limit q : ℕ) (b : Bool) → (in_range (max low limit, high) q || (b && nat_le limit q)) ≡ ((in_range (low, high) q || b) && nat_le limit q)
from_keeps low high limit q b = grind (arith, nat_tests)

from_drops : (low high limit q : ℕ) (b : Bool) → high ≤ limit → (b && nat_le limit q) ≡ ((in_range (low, high) q || b) && nat_le limit q)
from_drops low high limit q b le = grind (arith, nat_tests)

from_same : (limit q : ℕ) (rs : List (ℕ × ℕ)) → in_ranges (parts_from limit rs) q ≡ (in_ranges rs q && nat_le limit q)
from_same limit q [] = refl
from_same limit q (r ∷ rs) =
    elim (cases_Bool (nat_lt limit r.1)) [
      | inl is ↦
          ap (λ b. in_ranges (cond b ((max r.0 limit, r.1) ∷ parts_from limit rs) (parts_from limit rs)) q) is
          ∙ ap (λ b. in_range (max r.0 limit, r.1) q || b) (from_same limit q rs)
          ∙ from_keeps r.0 r.1 limit q (in_ranges rs q)
      | inr not ↦
          ap (λ b. in_ranges (cond b ((max r.0 limit, r.1) ∷ parts_from limit rs) (parts_from limit rs)) q) not
          ∙ from_same limit q rs
          ∙ from_drops r.0 r.1 limit q (in_ranges rs q) (at_least_of limit r.1 not)
    ]

-- ---- the lists

-- a property of the parts of a list, from the two cases of its first range
by_first : (P : List (ℕ × ℕ) → Type 0) (b : Bool) (kept dropped : List (ℕ × ℕ)) → (b ≡ true → P kept) → (b ≡ false → P dropped) → P (cond b kept dropped)
by_first P true kept dropped if_true if_false = if_true refl
by_first P false kept dropped if_true if_false = if_false refl

below_begins : (limit x y : ℕ) (rs : List (ℕ × ℕ)) → IsNormal rs → BeginsAfter y rs → x ≤ y → BeginsAfter x (parts_below limit rs)
below_begins limit x y [] normal after le = tt
below_begins limit x y (r ∷ rs) normal after le =
    by_first (BeginsAfter x) (nat_lt r.0 limit) _ _ (λ is. omega arith)
    (λ lacks. below_begins limit x r.1 rs normal.3 normal.2 (omega (arith, normal.0)))

below_normal : (limit : ℕ) (rs : List (ℕ × ℕ)) → IsNormal rs → IsNormal (parts_below limit rs)
below_normal limit [] normal = tt
below_normal limit (r ∷ rs) normal =
    by_first IsNormal (nat_lt r.0 limit) _ _
    (λ is. (omega (arith, normal.0, less_of r.0 limit is), omega (arith, normal.1), below_begins limit (min r.1 limit) r.1 rs normal.3 normal.2 (omega arith), below_normal limit rs normal.3))
    (λ lacks. below_normal limit rs normal.3)

below_ends : (limit f : ℕ) (rs : List (ℕ × ℕ)) → limit < f → EndsBelow f (parts_below limit rs)
below_ends limit f [] lt = tt
below_ends limit f (r ∷ rs) lt =
    by_first (EndsBelow f) (nat_lt r.0 limit) _ _ (λ is. (omega arith, below_ends limit f rs lt)) (λ lacks. below_ends limit f rs lt)

from_begins : (limit x y : ℕ) (rs : List (ℕ × ℕ)) → IsNormal rs → BeginsAfter y rs → x ≤ y → BeginsAfter x (parts_from limit rs)
from_begins limit x y [] normal after le = tt
from_begins limit x y (r ∷ rs) normal after le =
    by_first (BeginsAfter x) (nat_lt limit r.1) _ _ (λ is. omega arith)
    (λ lacks. from_begins limit x r.1 rs normal.3 normal.2 (omega (arith, normal.0)))

from_normal : (limit : ℕ) (rs : List (ℕ × ℕ)) → IsNormal rs → IsNormal (parts_from limit rs)
from_normal limit [] normal = tt
from_normal limit (r ∷ rs) normal =
    by_first IsNormal (nat_lt limit r.1) _ _
    (λ is. (omega (arith, normal.0, less_of limit r.1 is), normal.1, from_begins limit r.1 r.1 rs normal.3 normal.2 (omega arith), from_normal limit rs normal.3))
    (λ lacks. from_normal limit rs normal.3)

from_ends : (limit f : ℕ) (rs : List (ℕ × ℕ)) → EndsBelow f rs → EndsBelow f (parts_from limit rs)
from_ends limit f [] all = tt
from_ends limit f (r ∷ rs) all =
    by_first (EndsBelow f) (nat_lt limit r.1) _ _ (λ is. (all.0, from_ends limit f rs all.1)) (λ lacks. from_ends limit f rs all.1)

from_next : (limit n : ℕ) (rs : List (ℕ × ℕ)) → limit ≤ n → n ≤ pixel_count → limit ≤ next_of (parts_from limit rs)
from_next limit n [] le within = omega arith
from_next limit n (r ∷ rs) le within =
    by_first (λ (l : List (ℕ × ℕ)). limit ≤ next_of l) (nat_lt limit r.1) _ _ (λ is. omega arith) (λ lacks. from_next limit n rs le within)

first_least : (range : ℕ × ℕ) (after : List (ℕ × ℕ)) → IsNormal (range ∷ after) → range.0 ≤ next_of after
first_least range [] normal = omega (arith, normal.0, normal.1)
first_least range (r ∷ after) normal = omega (arith, normal.0, normal.2)

below_least : (limit n : ℕ) (rs : List (ℕ × ℕ)) → IsNormal rs → n ≤ next_of rs → n ≤ next_of (parts_below limit rs)
below_least limit n [] normal le = le
below_least limit n (r ∷ rs) normal le =
    by_first (λ (l : List (ℕ × ℕ)). n ≤ next_of l) (nat_lt r.0 limit) _ _ (λ is. le)
    (λ lacks. below_least limit n rs normal.3 (omega (arith, first_least r rs normal)))

from_least : (limit n : ℕ) (rs : List (ℕ × ℕ)) → IsNormal rs → n ≤ next_of rs → n ≤ next_of (parts_from limit rs)
from_least limit n [] normal le = le
from_least limit n (r ∷ rs) normal le =
    by_first (λ (l : List (ℕ × ℕ)). n ≤ next_of l) (nat_lt limit r.1) _ _ (λ is. omega arith)
    (λ lacks. from_least limit n rs normal.3 (omega (arith, first_least r rs normal)))

both_least : (n : ℕ) (rs ss : List (ℕ × ℕ)) → n ≤ next_of rs → n ≤ next_of ss → n ≤ next_of (rs ++ ss)
both_least n [] ss le more = more
both_least n (r ∷ rs) ss le more = le

outside : (from to q : ℕ) (b : Bool) → from < to → ((b && nat_lt q from) || (b && nat_le to q)) ≡ (b && not (nat_le from q && nat_lt q to))
outside from to q b lt = grind (arith, nat_tests)

pub cut_out : (from to : ℕ) (old new : List (ℕ × ℕ)) → IsNormal old → from < to → to ≤ pixel_count → new ≡ parts_below from old ++ parts_from to old → AreEditedRanges Remove from to old new
cut_out from to old new normal filled within made =
    let rs = parts_below from old in
    let ss = parts_from to old in
    let next : to ≤ next_of ss = from_next to to old (omega arith) within in
    subst (λ (l : List (ℕ × ℕ)). AreEditedRanges Remove from to old l) (sym made) (record {
      normal = normal_append rs ss (below_normal from old normal) (from_normal to old normal) (below_ends from (next_of ss) old (omega arith));
      first = let least = both_least (next_of old) rs ss (below_least from (next_of old) old normal (omega arith)) (from_least to (next_of old) old normal (omega arith)) in omega arith;
      below = λ f lt all. EndsBelow-append f rs ss (below_ends from f old (omega arith)) (from_ends to f old all);
      same = λ q. in_ranges-append rs ss q ∙ (λ i. below_same from q old i || from_same to q old i) ∙ outside from to q (in_ranges old q) filled;
    })

-- ---- the code's slices

pub ended_first : (limit k : ℕ) (ranges : List (ℕ × ℕ)) → EndsBy limit (all_ranges (λ (r : ℕ × ℕ). r ∷ []) (take k ranges)) → EndsBy limit (take k ranges)
ended_first limit k ranges ended = subst (λ (l : List (ℕ × ℕ)). EndsBy limit l) (all_ranges-ranges (take k ranges)) ended

-- all ranges end at or before the limit
pub below_all : (limit k : ℕ) (ranges : List (ℕ × ℕ)) → IsNormal ranges → EndsBy limit (all_ranges (λ (r : ℕ × ℕ). r ∷ []) (take k ranges)) → drop k ranges ≡ [] → parts_below limit ranges ≡ take k ranges
below_all limit k ranges normal ended none =
    let whole = take-append-drop k ranges in
    let kept = below_kept limit (take k ranges) (drop k ranges) (IsNormal-prefix (take k ranges) (drop k ranges) (subst IsNormal (sym whole) normal)) (ended_first limit k ranges ended) in
    ap (parts_below limit) (sym whole) ∙ kept ∙ ap (λ (l : List (ℕ × ℕ)). take k ranges ++ parts_below limit l) none ∙ append_empty (take k ranges)

-- the range after them is cut, or begins at or after the limit
below_some : (limit k : ℕ) (ranges more : List (ℕ × ℕ)) (r : ℕ × ℕ) → IsNormal ranges → EndsBy limit (all_ranges (λ (r : ℕ × ℕ). r ∷ []) (take k ranges)) → drop k ranges ≡ r ∷ more → limit < r.1 → parts_below limit ranges ≡ take k ranges ++ cond (nat_lt r.0 limit) ((r.0, limit) ∷ []) []
below_some limit k ranges more r normal ended next past =
    let whole = take-append-drop k ranges in
    let normal' = subst IsNormal (sym whole) normal in
    let kept = below_kept limit (take k ranges) (drop k ranges) (IsNormal-prefix (take k ranges) (drop k ranges) normal') (ended_first limit k ranges ended) in
    ap (parts_below limit) (sym whole) ∙ kept ∙ ap (λ (l : List (ℕ × ℕ)). take k ranges ++ parts_below limit l) next
    ∙ ap (λ (l : List (ℕ × ℕ)). take k ranges ++ l) (below_first limit r more (subst IsNormal next (IsNormal-suffix (take k ranges) (drop k ranges) normal')) past)

pub below_cut : (limit k : ℕ) (ranges more : List (ℕ × ℕ)) (r : ℕ × ℕ) → IsNormal ranges → EndsBy limit (all_ranges (λ (r : ℕ × ℕ). r ∷ []) (take k ranges)) → drop k ranges ≡ r ∷ more → limit < r.1 → r.0 < limit → parts_below limit ranges ≡ take k ranges ++ (r.0, limit) ∷ []
below_cut limit k ranges more r normal ended next past lt =
    below_some limit k ranges more r normal ended next past ∙ ap (λ b. take k ranges ++ cond b ((r.0, limit) ∷ []) []) (is_less r.0 limit lt)

pub below_uncut : (limit k : ℕ) (ranges more : List (ℕ × ℕ)) (r : ℕ × ℕ) → IsNormal ranges → EndsBy limit (all_ranges (λ (r : ℕ × ℕ). r ∷ []) (take k ranges)) → drop k ranges ≡ r ∷ more → limit < r.1 → limit ≤ r.0 → parts_below limit ranges ≡ take k ranges
below_uncut limit k ranges more r normal ended next past le =
    below_some limit k ranges more r normal ended next past ∙ ap (λ b. take k ranges ++ cond b ((r.0, limit) ∷ []) []) (not_less r.0 limit le) ∙ append_empty (take k ranges)

-- the range after those that end at or before the limit
pub past_next : (rs : List (ℕ × ℕ)) (k limit : ℕ) → EndsAfterAt (λ (r : ℕ × ℕ). r ∷ []) rs limit k → (r : ℕ × ℕ) (more : List (ℕ × ℕ)) → drop k rs ≡ r ∷ more → limit < r.1
past_next [] zero limit past r more e = absurd (omega (arith, ap length e))
past_next [] (suc k) limit past r more e = absurd (omega (arith, ap length e))
past_next (s ∷ rs) zero limit past r more e = omega (arith, past s (omega arith), ap (λ (l : List (ℕ × ℕ)). last_of (take 1 l)) e)
past_next (s ∷ rs) (suc k) limit past r more e = past_next rs k limit (λ x lt. past x (omega arith)) r more e

pub from_none : (limit k : ℕ) (ranges : List (ℕ × ℕ)) → EndsBy limit (all_ranges (λ (r : ℕ × ℕ). r ∷ []) (take k ranges)) → drop k ranges ≡ [] → parts_from limit ranges ≡ []
from_none limit k ranges ended none =
    ap (parts_from limit) (sym (take-append-drop k ranges)) ∙ from_dropped limit (take k ranges) (drop k ranges) (ended_first limit k ranges ended) ∙ ap (parts_from limit) none

pub from_some : (limit k : ℕ) (ranges more : List (ℕ × ℕ)) (r : ℕ × ℕ) → IsNormal ranges → EndsBy limit (all_ranges (λ (r : ℕ × ℕ). r ∷ []) (take k ranges)) → drop k ranges ≡ r ∷ more → limit < r.1 → parts_from limit ranges ≡ (max r.0 limit, r.1) ∷ more
from_some limit k ranges more r normal ended next past =
    let whole = take-append-drop k ranges in
    ap (parts_from limit) (sym whole) ∙ from_dropped limit (take k ranges) (drop k ranges) (ended_first limit k ranges ended) ∙ ap (parts_from limit) next
    ∙ from_first limit r more (subst IsNormal next (IsNormal-suffix (take k ranges) (drop k ranges) (subst IsNormal (sym whole) normal))) past

pub if_ok : {T E : Type 0} (P Q : T → Type 0) (r : Result T E) → ((x : T) → P x → Q x) → IfOk r P → IfOk r Q
if_ok {T} {E} P Q (Ok x) more holds = more x holds
if_ok {T} {E} P Q (Err e) more holds = tt
