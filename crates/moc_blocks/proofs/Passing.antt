-- Skipping the first runs of a list of ranges.
use Rattle.std.proofs.Common.{◌≡◌, ℕ, zero, suc, ◌/◌, inl, inr, Option, None, Some, MatchOption, Bor, ◌+◌, ◌-◌, ◌<◌}
use Rattle.std.proofs.Common.{◌≤◌, List, [], ◌∷◌, ◌++◌, length, get_or, take, drop, refl, sym, ap, subst, ◌∙◌, arith}
use Rattle.std.proofs.Common.{append_assoc, length-take}
use Rattle.std.proofs.lemmas.Bool.{cases_lt}
use Rattle.std.proofs.lemmas.List.{take_more, drop_more, take_rest, take-append-drop, take_all, get_or_default, get_or-take, get_or-drop}
use Rattle.std.proofs.lemmas.List.Sums.{sum_by-cons}
use Rattle.std.specs.Slice.{IsItemAt}
use Rattle.std.specs.Option.{option_copied}
use Rattle.moc_blocks.specs.RangeList.{pixel_count, IsNormal}
use Rattle.moc_blocks.specs.Blocks.{concat}
use Rattle.moc_blocks.specs.Private.Blocks.{first_of, last_of, width_of, rest_of}
use Rattle.moc_blocks.specs.Private.Walks.{all_ranges, EndsBy, overlap_of, Skips, EndsAfterAt, IsCounting, IsSkipping, IsFirstAfter}
use Rattle.moc_blocks.proofs.Blocking.{IsNormal-prefix, IsNormal-suffix, width_bounded, last_of-append, concat-append}
use Rattle.moc_blocks.proofs.Blocking.{none_there, append_empty}

pub all_ranges-append : {T : Type 0} (f : T → List (ℕ × ℕ)) (xs ys : List T) → all_ranges f (xs ++ ys) ≡ all_ranges f xs ++ all_ranges f ys
all_ranges-append {T} f [] ys = refl
all_ranges-append {T} f (x ∷ xs) ys = ap (λ (l : List (ℕ × ℕ)). f x ++ l) (all_ranges-append f xs ys) ∙ sym (append_assoc (f x) (all_ranges f xs) (all_ranges f ys))

pub all_ranges-parts : {T : Type 0} (f : T → List (ℕ × ℕ)) (xs : List T) (k : ℕ) → all_ranges f xs ≡ all_ranges f (take k xs) ++ all_ranges f (drop k xs)
all_ranges-parts {T} f xs k = ap (all_ranges f) (sym (take-append-drop k xs)) ∙ all_ranges-append f (take k xs) (drop k xs)

pub ranges_from_index : {T : Type 0} (f : T → List (ℕ × ℕ)) (xs : List T) (i : ℕ) (x : T) → i < length xs → x ≡ get_or xs i x → all_ranges f (drop i xs) ≡ f x ++ all_ranges f (drop (i + 1) xs)
ranges_from_index {T} f xs i x lt is =
    ap (all_ranges f) (drop_more xs i x lt) ∙ ap (λ (y : T). f y ++ all_ranges f (drop (i + 1) xs)) (sym is)

ranges_until_index : {T : Type 0} (f : T → List (ℕ × ℕ)) (xs : List T) (i : ℕ) (x : T) → i < length xs → x ≡ get_or xs i x → all_ranges f (take (i + 1) xs) ≡ all_ranges f (take i xs) ++ f x
ranges_until_index {T} f xs i x lt is =
    ap (all_ranges f) (take_more xs i x lt)
    ∙ all_ranges-append f (take i xs) (get_or xs i x ∷ [])
    ∙ ap (λ (l : List (ℕ × ℕ)). all_ranges f (take i xs) ++ l) (append_empty (f (get_or xs i x)))
    ∙ ap (λ (y : T). all_ranges f (take i xs) ++ f y) (sym is)

-- a list ends where its last range ends
pub ends_by_last : (limit : ℕ) (rs : List (ℕ × ℕ)) → IsNormal rs → last_of rs ≤ limit → EndsBy limit rs
ends_by_last limit [] normal le = tt
ends_by_last limit (r ∷ []) normal le = (le, tt)
ends_by_last limit (r ∷ (s ∷ rs)) normal le =
    let rest = ends_by_last limit (s ∷ rs) normal.3 le in
    (omega (arith, rest.0, normal.2, normal.3.0), rest)

pub ends_by-append : (limit : ℕ) (rs ss : List (ℕ × ℕ)) → EndsBy limit rs → EndsBy limit ss → EndsBy limit (rs ++ ss)
ends_by-append limit [] ss r s = s
ends_by-append limit (x ∷ rs) ss r s = (r.0, ends_by-append limit rs ss r.1 s)

pub ends_by_more : (low high : ℕ) (rs : List (ℕ × ℕ)) → low ≤ high → EndsBy low rs → EndsBy high rs
ends_by_more low high [] le e = tt
ends_by_more low high (r ∷ rs) le e = (omega (arith, e.0), ends_by_more low high rs le e.1)

-- if a run ends at or before the limit, so do all runs before it
pub ends_by_next : {T : Type 0} (f : T → List (ℕ × ℕ)) (xs : List T) (i limit : ℕ) (x : T) → IsNormal (all_ranges f xs) → i < length xs → x ≡ get_or xs i x → 0 < length (f x) → last_of (f x) ≤ limit → EndsBy limit (all_ranges f (take (i + 1) xs))
ends_by_next {T} f xs i limit x normal lt is some le =
    let same = ranges_until_index f xs i x lt is in
    let whole : IsNormal (all_ranges f (take (i + 1) xs)) = IsNormal-prefix (all_ranges f (take (i + 1) xs)) (all_ranges f (drop (i + 1) xs)) (subst IsNormal (all_ranges-parts f xs (i + 1)) normal) in
    let ends : last_of (all_ranges f (take (i + 1) xs)) ≤ limit = omega (arith, ap last_of same ∙ last_of-append (all_ranges f (take i xs)) (f x) some, le) in
    ends_by_last limit _ whole ends

pub ends_by-left : (limit : ℕ) (rs ss : List (ℕ × ℕ)) → EndsBy limit (rs ++ ss) → EndsBy limit rs
ends_by-left limit [] ss e = tt
ends_by-left limit (r ∷ rs) ss e = (e.0, ends_by-left limit rs ss e.1)

pub ends_by-right : (limit : ℕ) (rs ss : List (ℕ × ℕ)) → EndsBy limit (rs ++ ss) → EndsBy limit ss
ends_by-right limit [] ss e = e
ends_by-right limit (r ∷ rs) ss e = ends_by-right limit rs ss e.1

pub last_ends_by : (limit : ℕ) (rs : List (ℕ × ℕ)) → EndsBy limit rs → last_of rs ≤ limit
last_ends_by limit [] e = omega arith
last_ends_by limit (r ∷ []) e = e.0
last_ends_by limit (r ∷ (s ∷ rs)) e = last_ends_by limit (s ∷ rs) e.1

-- each of the first runs that have ended ends at or before the limit
run_ends_by : {T : Type 0} (f : T → List (ℕ × ℕ)) (xs : List T) (n k limit : ℕ) (d : T) → k < n → k < length xs → EndsBy limit (all_ranges f (take n xs)) → last_of (f (get_or xs k d)) ≤ limit
run_ends_by {T} f [] n k limit d lt inside e = absurd (omega arith)
run_ends_by {T} f (x ∷ xs) zero k limit d lt inside e = absurd (omega arith)
run_ends_by {T} f (x ∷ xs) (suc n) zero limit d lt inside e = last_ends_by limit (f x) (ends_by-left limit (f x) (all_ranges f (take n xs)) e)
run_ends_by {T} f (x ∷ xs) (suc n) (suc k) limit d lt inside e = run_ends_by f xs n k limit d (omega arith) (omega arith) (ends_by-right limit (f x) (all_ranges f (take n xs)) e)

pub skip_right : {T : Type 0} (f : T → List (ℕ × ℕ)) (xs : List T) (limit low size : ℕ) (x : T) → IsNormal (all_ranges f xs) → IsSkipping f xs limit low size → 1 < size → x ≡ get_or xs (low + size / 2) x → 0 < length (f x) → last_of (f x) ≤ limit → IsSkipping f xs limit (low + size / 2) (size - size / 2)
skip_right {T} f xs limit low size x normal s more is some le =
    let middle : ℕ = low + size / 2 in
    let within = s.within in
    let near = s.near in
    let inside : middle < length xs = omega arith in
    let ended = ends_by_next f xs middle limit x normal inside is some le in
    record {
      within = omega arith;
      before = ends_by-left limit (all_ranges f (take middle xs)) (f x) (subst (EndsBy limit) (ranges_until_index f xs middle x inside is) ended);
      place = s.place;
      near = omega arith;
      past = s.past;
    }

pub ends_after_at_index : {T : Type 0} (f : T → List (ℕ × ℕ)) (xs : List T) (limit i : ℕ) (x : T) → x ≡ get_or xs i x → limit < last_of (f x) → EndsAfterAt f xs limit i
ends_after_at_index {T} f xs limit i x is lt = λ run inside. let same : x ≡ get_or xs i run = is ∙ get_or_default xs i x run inside in omega (arith, lt, ap (λ (y : T). last_of (f y)) same)

pub skip_left : {T : Type 0} (f : T → List (ℕ × ℕ)) (xs : List T) (limit low size : ℕ) (x : T) → IsSkipping f xs limit low size → 1 < size → x ≡ get_or xs (low + size / 2) x → limit < last_of (f x) → IsSkipping f xs limit low (size - size / 2)
skip_left {T} f xs limit low size x s more is lt =
    let within = s.within in
    record {
      within = omega arith;
      before = s.before;
      place = low + size / 2;
      near = omega arith;
      past = ends_after_at_index f xs limit (low + size / 2) x is lt;
    }

-- if all runs before a position have ended, and a run not after it ends after the limit, it is the first such run
pub ends_after_later : {T : Type 0} (f : T → List (ℕ × ℕ)) (xs : List T) (limit place n : ℕ) → EndsBy limit (all_ranges f (take n xs)) → place ≤ n → EndsAfterAt f xs limit place → EndsAfterAt f xs limit n
ends_after_later {T} f xs limit place n ended near past = λ run inside. elim (cases_lt place n) [
  | inl before ↦ absurd (let le = run_ends_by f xs n place limit run before (omega arith) ended in let gt = past run (omega arith) in omega arith)
  | inr here ↦ let same : place ≡ n = omega arith in subst (λ (k : ℕ). EndsAfterAt f xs limit k) same past run inside
]

pub counts_none : {T : Type 0} (f : T → List (ℕ × ℕ)) (xs : List T) (limit low size : ℕ) → IsSkipping f xs limit low size → IsCounting f xs limit low 0 low
counts_none {T} f xs limit low size s = record {
  least = omega arith;
  most = omega arith;
  before = s.before;
  past = λ lt. absurd (omega (arith, lt));
}

-- the next run is counted if it ends at or before the limit
pub counts_more : {T : Type 0} (f : T → List (ℕ × ℕ)) (xs : List T) (limit low read place : ℕ) (x : T) (one : ℕ) → IsNormal (all_ranges f xs) → low + read < length xs
    → x ≡ get_or xs (low + read) x → 0 < length (f x) → (last_of (f x) ≤ limit → one ≡ 1) → (limit < last_of (f x) → one ≡ 0)
    → IsCounting f xs limit low read place → IsCounting f xs limit low (read + 1) (place + one)
counts_more {T} f xs limit low read place x one normal inside is some ended later s =
    let least = s.least in
    let most = s.most in
    elim (cases_lt limit (last_of (f x))) [
      | inl lt ↦
          let none : one ≡ 0 = later lt in
          let same : place + one ≡ place = omega arith in
          record {
            least = omega arith;
            most = omega arith;
            before = subst (λ n. EndsBy limit (all_ranges f (take n xs))) (sym same) s.before;
            past = λ fewer. subst (EndsAfterAt f xs limit) (sym same) (elim (cases_lt place (low + read)) [
              | inl before ↦ s.past before
              | inr here ↦ let last : place ≡ low + read = omega arith in subst (EndsAfterAt f xs limit) (sym last) (ends_after_at_index f xs limit (low + read) x is lt)
            ]);
          }
      | inr le ↦
          let all : EndsBy limit (all_ranges f (take (low + read + 1) xs)) = ends_by_next f xs (low + read) limit x normal inside is some le in
          elim (cases_lt place (low + read)) [
            | inl before ↦ absurd (let ends = run_ends_by f xs (low + read + 1) place limit x (omega arith) (omega arith) all in let after = s.past before x (omega arith) in omega arith)
            | inr here ↦
                let counted : one ≡ 1 = ended le in
                let next : low + read + 1 ≡ place + one = omega arith in
                record {
                  least = omega arith;
                  most = omega arith;
                  before = subst (λ n. EndsBy limit (all_ranges f (take n xs))) next all;
                  past = λ fewer. absurd (omega (arith, fewer));
                }
          ]
    ]

-- after all runs of a search, the next one ends after the limit
pub counted_past : {T : Type 0} (f : T → List (ℕ × ℕ)) (xs : List T) (limit low size place : ℕ) → IsSkipping f xs limit low size → IsCounting f xs limit low size place → EndsAfterAt f xs limit place
counted_past {T} f xs limit low size place s counted = elim (cases_lt place (low + size)) [
  | inl before ↦ counted.past before
  | inr here ↦ let near = s.near in ends_after_later f xs limit s.place place counted.before (omega arith) s.past
]

-- the run at an index from `low` on
pub run_from : {T : Type 0} (xs : List T) (low size i : ℕ) (x : T) → i < length (take (low + size - low) (drop low xs)) → x ≡ get_or (take (low + size - low) (drop low xs)) i x → x ≡ get_or xs (low + i) x
run_from {T} xs low size i x lt is = is ∙ get_or-take (low + size - low) (drop low xs) i x (omega (arith, length-take (low + size - low) (drop low xs))) ∙ get_or-drop low xs i x

-- if a run ends after the limit, the result of the search is at or before it
pub skip_before : {T : Type 0} (f : T → List (ℕ × ℕ)) (xs : List T) (limit low : ℕ) (x : T) → 0 < low → low ≤ length xs → x ≡ get_or xs (low - 1) x → limit < last_of (f x) → IsSkipping f xs limit 0 low
skip_before {T} f xs limit low x some within is lt = record {
  within = omega arith;
  before = tt;
  place = low - 1;
  near = omega arith;
  past = ends_after_at_index f xs limit (low - 1) x is lt;
}

-- if a run ends at or before the limit, the result of the search is after it
pub skip_from : {T : Type 0} (f : T → List (ℕ × ℕ)) (xs : List T) (limit high : ℕ) (x : T) → IsNormal (all_ranges f xs) → high < length xs → x ≡ get_or xs high x → 0 < length (f x) → last_of (f x) ≤ limit → IsSkipping f xs limit high (length xs - high)
skip_from {T} f xs limit high x normal inside is some le = record {
  within = omega arith;
  before = ends_by-left limit (all_ranges f (take high xs)) (f x) (subst (EndsBy limit) (ranges_until_index f xs high x inside is) (ends_by_next f xs high limit x normal inside is some le));
  place = length xs;
  near = omega arith;
  past = λ run lt. absurd (omega (arith, lt));
}

-- if the run before a position ends at or before the limit, and the run at another position after it, the result is
-- between
pub skip_between : {T : Type 0} (f : T → List (ℕ × ℕ)) (xs : List T) (limit low high : ℕ) → low ≤ high → high ≤ length xs → EndsBy limit (all_ranges f (take low xs)) → EndsAfterAt f xs limit high → IsSkipping f xs limit low (high - low)
skip_between {T} f xs limit low high order within ended past = record {
  within = omega arith;
  before = ended;
  place = high;
  near = omega arith;
  past = past;
}

pub ended_before : {T : Type 0} (f : T → List (ℕ × ℕ)) (xs : List T) (low limit : ℕ) (x : T) → IsNormal (all_ranges f xs) → 0 < low → low ≤ length xs → x ≡ get_or xs (low - 1) x → 0 < length (f x) → last_of (f x) ≤ limit → EndsBy limit (all_ranges f (take low xs))
ended_before {T} f xs low limit x normal some within is filled le =
    let next : low - 1 + 1 ≡ low = omega arith in
    subst (λ (k : ℕ). EndsBy limit (all_ranges f (take k xs))) next (ends_by_next f xs (low - 1) limit x normal (omega arith) is filled le)

-- the result of reading at this position
pub first_after_of_item : {T : Type 0} (f : T → List (ℕ × ℕ)) (xs : List T) (limit i : ℕ) (r : Option (Bor T)) → IsItemAt xs i r → EndsBy limit (all_ranges f (take i xs)) → EndsAfterAt f xs limit i → MatchOption r (EndsBy limit (all_ranges f xs)) (λ run. IsFirstAfter limit (f run.now) (all_ranges f xs))
first_after_of_item {T} f xs limit i None item ended past = subst (λ (l : List T). EndsBy limit (all_ranges f l)) (take_all i xs item.3) ended
first_after_of_item {T} f xs limit i (Some run) item ended past = let inside = item.3.0 in let is : run.now ≡ get_or xs i run.now = item.1 in record {
  removed = all_ranges f (take i xs);
  later = all_ranges f (drop (i + 1) xs);
  parts = all_ranges-parts f xs i ∙ ap (λ (l : List (ℕ × ℕ)). all_ranges f (take i xs) ++ l) (ranges_from_index f xs i run.now inside is);
  ended = ended;
  past = omega (arith, past run.now inside, ap (λ (y : T). last_of (f y)) is);
}

-- the first range of the first run is the first of all
pub first_after_in_run : (limit : ℕ) (run middle whole : List (ℕ × ℕ)) → IsFirstAfter limit middle whole → IsFirstAfter limit run middle → IsFirstAfter limit run whole
first_after_in_run limit run middle whole outer inner = record {
  removed = outer.removed ++ inner.removed;
  later = inner.later ++ outer.later;
  parts = outer.parts
      ∙ ap (λ (l : List (ℕ × ℕ)). outer.removed ++ (l ++ outer.later)) inner.parts
      ∙ ap (λ (l : List (ℕ × ℕ)). outer.removed ++ l) (append_assoc inner.removed (run ++ inner.later) outer.later ∙ ap (λ (l : List (ℕ × ℕ)). inner.removed ++ l) (append_assoc run inner.later outer.later))
      ∙ sym (append_assoc outer.removed inner.removed (run ++ (inner.later ++ outer.later)));
  ended = ends_by-append limit outer.removed inner.removed outer.ended inner.ended;
  past = inner.past;
}

-- a run that ends after the limit has a range that ends after it
pub first_after_excludes_end : (limit : ℕ) (run whole : List (ℕ × ℕ)) → IsFirstAfter limit run whole → EndsBy limit run → ⊥
first_after_excludes_end limit run whole f ended = let le = last_ends_by limit run ended in let gt = f.past in omega arith

pub first_after_normal : (limit : ℕ) (run whole : List (ℕ × ℕ)) → IsNormal whole → IsFirstAfter limit run whole → IsNormal run
first_after_normal limit run whole normal f = IsNormal-prefix run f.later (IsNormal-suffix f.removed (run ++ f.later) (subst IsNormal f.parts normal))

pub overlap_of-append : (range : ℕ × ℕ) (rs ss : List (ℕ × ℕ)) → overlap_of range (rs ++ ss) ≡ overlap_of range rs + overlap_of range ss
overlap_of-append range [] ss = omega arith
overlap_of-append range (r ∷ rs) ss = omega (arith, overlap_of-append range rs ss)

pub overlap_none : (range : ℕ × ℕ) (rs : List (ℕ × ℕ)) → EndsBy range.0 rs → 0 ≡ overlap_of range rs
overlap_none range [] e = refl
overlap_none range (r ∷ rs) e = omega (arith, e.0, overlap_none range rs e.1)

overlap_width : (range : ℕ × ℕ) (rs : List (ℕ × ℕ)) → overlap_of range rs ≤ width_of rs
overlap_width range [] = omega arith
overlap_width range (r ∷ rs) = omega (arith, overlap_width range rs, sum_by-cons (λ (range : ℕ × ℕ). range.1 - range.0) r rs)

overlap_all : (range : ℕ × ℕ) (rs : List (ℕ × ℕ)) → IsNormal rs → range.0 ≤ first_of rs → EndsBy range.1 rs → overlap_of range rs ≡ width_of rs
overlap_all range [] normal from e = refl
overlap_all range (r ∷ []) normal from e = omega (arith, e.0, sum_by-cons (λ (range : ℕ × ℕ). range.1 - range.0) r [])
overlap_all range (r ∷ (s ∷ rs)) normal from e =
    omega (arith, e.0, sum_by-cons (λ (range : ℕ × ℕ). range.1 - range.0) r (s ∷ rs), overlap_all range (s ∷ rs) normal.3 (omega (arith, normal.0, normal.2)) e.1)

-- ---- skipping

pub skip_start : {T : Type 0} (f : T → List (ℕ × ℕ)) (range : ℕ × ℕ) (xs : List T) (k : ℕ) → range.0 ≤ range.1 → EndsBy range.0 (all_ranges f (take k xs)) → Skips range (all_ranges f xs) (all_ranges f (drop k xs)) 0
skip_start {T} f range xs k le ended = record {
  removed = all_ranges f (take k xs);
  parts = all_ranges-parts f xs k;
  ended = ends_by_more range.0 range.1 _ le ended;
  counted = overlap_none range _ ended;
}

pub skip_transitive : (range : ℕ × ℕ) (s t u : List (ℕ × ℕ)) (m n : ℕ) → Skips range s t m → Skips range t u n → Skips range s u (m + n)
skip_transitive range s t u m n p q = record {
  removed = p.removed ++ q.removed;
  parts = p.parts ∙ ap (λ (l : List (ℕ × ℕ)). p.removed ++ l) q.parts ∙ sym (append_assoc p.removed q.removed u);
  ended = ends_by-append range.1 p.removed q.removed p.ended q.ended;
  counted = omega (arith, p.counted, q.counted, overlap_of-append range p.removed q.removed);
}

pub skip_with_suffix : (range : ℕ × ℕ) (s t u : List (ℕ × ℕ)) (m : ℕ) → Skips range s t m → Skips range (s ++ u) (t ++ u) m
skip_with_suffix range s t u m p = record {
  removed = p.removed;
  parts = ap (λ (l : List (ℕ × ℕ)). l ++ u) p.parts ∙ append_assoc p.removed t u;
  ended = p.ended;
  counted = p.counted;
}

pub skip_normal : (range : ℕ × ℕ) (s t : List (ℕ × ℕ)) (m : ℕ) → IsNormal s → Skips range s t m → IsNormal t
skip_normal range s t m normal p = IsNormal-suffix p.removed t (subst IsNormal p.parts normal)

pub skip_bounded : (range : ℕ × ℕ) (s t : List (ℕ × ℕ)) (m : ℕ) → IsNormal s → Skips range s t m → m ≤ pixel_count
skip_bounded range s t m normal p =
    let removed = IsNormal-prefix p.removed t (subst IsNormal p.parts normal) in
    omega (arith, p.counted, overlap_width range p.removed, width_bounded p.removed removed)

-- a run that is inside the range
pub skip_run : (range : ℕ × ℕ) (run s t u : List (ℕ × ℕ)) (m w : ℕ) → IsNormal s → Skips range s t m → t ≡ run ++ u → range.0 ≤ first_of run → last_of run ≤ range.1 → w ≡ width_of run → Skips range s u (m + w)
skip_run range run s t u m w normal p split from to is =
    let whole : IsNormal run = IsNormal-prefix run u (subst IsNormal split (skip_normal range s t m normal p)) in
    let ended = ends_by_last range.1 run whole to in
    skip_transitive range s t u m w p (record { removed = run; parts = split; ended = ended; counted = is ∙ sym (overlap_all range run whole from ended) })

-- the invariant of skipping runs
pub record IsPassing (range : ℕ × ℕ) (whole rest : List (ℕ × ℕ)) (common place len : ℕ) : Type 0 where
  pub within : place ≤ len
  pub passed : Skips range whole rest common

pub skip_one_item : {T : Type 0} (f : T → List (ℕ × ℕ)) (range : ℕ × ℕ) (xs : List T) (i m w : ℕ) (x : T) → IsNormal (all_ranges f xs) → IsPassing range (all_ranges f xs) (all_ranges f (drop i xs)) m i (length xs) → i < length xs → x ≡ get_or xs i x → range.0 ≤ first_of (f x) → last_of (f x) ≤ range.1 → w ≡ width_of (f x) → Skips range (all_ranges f xs) (all_ranges f (drop (i + 1) xs)) (m + w)
skip_one_item {T} f range xs i m w x normal p lt is from to width =
    skip_run range (f x) (all_ranges f xs) (all_ranges f (drop i xs)) (all_ranges f (drop (i + 1) xs)) m w normal p.passed (ranges_from_index f xs i x lt is) from to width

pub run_normal : {T : Type 0} (f : T → List (ℕ × ℕ)) (xs : List T) (i : ℕ) (x : T) → IsNormal (all_ranges f xs) → i < length xs → x ≡ get_or xs i x → IsNormal (f x)
run_normal {T} f xs i x normal lt is =
    let left = IsNormal-suffix (all_ranges f (take i xs)) (all_ranges f (drop i xs)) (subst IsNormal (all_ranges-parts f xs i) normal) in
    IsNormal-prefix (f x) (all_ranges f (drop (i + 1) xs)) (subst IsNormal (ranges_from_index f xs i x lt is) left)

pub skip_complete : {T : Type 0} (f : T → List (ℕ × ℕ)) (range : ℕ × ℕ) (xs : List T) (i m : ℕ) → IsPassing range (all_ranges f xs) (all_ranges f (drop i xs)) m i (length xs) → Skips range (all_ranges f xs) (all_ranges f (take (length xs - i) (drop i xs))) m
skip_complete {T} f range xs i m p = subst (λ (l : List T). Skips range (all_ranges f xs) (all_ranges f l) m) (sym (take_rest xs i)) p.passed

-- ---- ranges, blocks and nodes as runs

pub all_ranges-ranges : (rs : List (ℕ × ℕ)) → all_ranges (λ (r : ℕ × ℕ). r ∷ []) rs ≡ rs
all_ranges-ranges [] = refl
all_ranges-ranges (r ∷ rs) = ap (λ (l : List (ℕ × ℕ)). r ∷ l) (all_ranges-ranges rs)

pub all_ranges-blocks : (bs : List (List (ℕ × ℕ))) → all_ranges (λ (b : List (ℕ × ℕ)). b) bs ≡ concat bs
all_ranges-blocks [] = refl
all_ranges-blocks (b ∷ bs) = ap (λ (l : List (ℕ × ℕ)). b ++ l) (all_ranges-blocks bs)

pub all_ranges-nodes : (ns : List (List (List (ℕ × ℕ)))) → all_ranges (λ (n : List (List (ℕ × ℕ))). concat n) ns ≡ concat (concat ns)
all_ranges-nodes [] = refl
all_ranges-nodes (n ∷ ns) = ap (λ (l : List (ℕ × ℕ)). concat n ++ l) (all_ranges-nodes ns) ∙ sym (concat-append n (concat ns))

pub normal_blocks : (bs : List (List (ℕ × ℕ))) (ns : List (List (List (ℕ × ℕ)))) → IsNormal (rest_of [] bs ns) → IsNormal (all_ranges (λ (b : List (ℕ × ℕ)). b) bs)
normal_blocks bs ns normal = subst IsNormal (sym (all_ranges-blocks bs)) (IsNormal-prefix (concat bs) (concat (concat ns)) normal)

pub normal_nodes : (bs : List (List (ℕ × ℕ))) (ns : List (List (List (ℕ × ℕ)))) → IsNormal (rest_of [] bs ns) → IsNormal (all_ranges (λ (n : List (List (ℕ × ℕ))). concat n) ns)
normal_nodes bs ns normal = subst IsNormal (sym (all_ranges-nodes ns)) (IsNormal-suffix (concat bs) (concat (concat ns)) normal)

pub normal_first_ranges : (rs : List (ℕ × ℕ)) (bs : List (List (ℕ × ℕ))) (ns : List (List (List (ℕ × ℕ)))) → IsNormal (rest_of rs bs ns) → IsNormal (all_ranges (λ (r : ℕ × ℕ). r ∷ []) rs)
normal_first_ranges rs bs ns normal = subst IsNormal (sym (all_ranges-ranges rs)) (IsNormal-prefix rs (concat bs ++ concat (concat ns)) normal)

pub skip_in_blocks : (range : ℕ × ℕ) (bs bs' : List (List (ℕ × ℕ))) (ns : List (List (List (ℕ × ℕ)))) (m : ℕ) → Skips range (all_ranges (λ (b : List (ℕ × ℕ)). b) bs) (all_ranges (λ (b : List (ℕ × ℕ)). b) bs') m → Skips range (rest_of [] bs ns) (rest_of [] bs' ns) m
skip_in_blocks range bs bs' ns m p =
    let q : Skips range (concat bs) (concat bs') m = subst (λ (l : List (ℕ × ℕ)). Skips range l (concat bs') m) (all_ranges-blocks bs) (subst (λ (l : List (ℕ × ℕ)). Skips range (all_ranges (λ (b : List (ℕ × ℕ)). b) bs) l m) (all_ranges-blocks bs') p) in
    skip_with_suffix range (concat bs) (concat bs') (concat (concat ns)) m q

skip_in_nodes : (range : ℕ × ℕ) (ns ns' : List (List (List (ℕ × ℕ)))) (m : ℕ) → Skips range (all_ranges (λ (n : List (List (ℕ × ℕ))). concat n) ns) (all_ranges (λ (n : List (List (ℕ × ℕ))). concat n) ns') m → Skips range (rest_of [] [] ns) (rest_of [] [] ns') m
skip_in_nodes range ns ns' m p = subst (λ (l : List (ℕ × ℕ)). Skips range l (concat (concat ns')) m) (all_ranges-nodes ns) (subst (λ (l : List (ℕ × ℕ)). Skips range (all_ranges (λ (n : List (List (ℕ × ℕ))). concat n) ns) l m) (all_ranges-nodes ns') p)

pub skip_in_ranges : (range : ℕ × ℕ) (rs rs' : List (ℕ × ℕ)) (bs : List (List (ℕ × ℕ))) (ns : List (List (List (ℕ × ℕ)))) (m : ℕ) → Skips range (all_ranges (λ (r : ℕ × ℕ). r ∷ []) rs) (all_ranges (λ (r : ℕ × ℕ). r ∷ []) rs') m → Skips range (rest_of rs bs ns) (rest_of rs' bs ns) m
skip_in_ranges range rs rs' bs ns m p =
    let q : Skips range rs rs' m = subst (λ (l : List (ℕ × ℕ)). Skips range l rs' m) (all_ranges-ranges rs) (subst (λ (l : List (ℕ × ℕ)). Skips range (all_ranges (λ (r : ℕ × ℕ). r ∷ []) rs) l m) (all_ranges-ranges rs') p) in
    skip_with_suffix range rs rs' (concat bs ++ concat (concat ns)) m q

-- all remaining blocks of a node were skipped, and then nodes
pub skip_blocks_then_nodes : (range : ℕ × ℕ) (bs bs' : List (List (ℕ × ℕ))) (ns ns' : List (List (List (ℕ × ℕ)))) (m n : ℕ) → Skips range (all_ranges (λ (b : List (ℕ × ℕ)). b) bs) (all_ranges (λ (b : List (ℕ × ℕ)). b) bs') m → length bs' < 1 → Skips range (all_ranges (λ (n : List (List (ℕ × ℕ))). concat n) ns) (all_ranges (λ (n : List (List (ℕ × ℕ))). concat n) ns') n → Skips range (rest_of [] bs ns) (rest_of [] [] ns') (m + n)
skip_blocks_then_nodes range bs bs' ns ns' m n p none q =
    let e : bs' ≡ [] = none_there bs' (omega arith) in
    let first = subst (λ (l : List (List (ℕ × ℕ))). Skips range (rest_of [] bs ns) (rest_of [] l ns) m) e (skip_in_blocks range bs bs' ns m p) in
    skip_transitive range (rest_of [] bs ns) (rest_of [] [] ns) (rest_of [] [] ns') m n first (skip_in_nodes range ns ns' n q)

-- then blocks of the next node were skipped
pub skip_next_block : (range : ℕ × ℕ) (s t : List (ℕ × ℕ)) (bs bs' : List (List (ℕ × ℕ))) (ns : List (List (List (ℕ × ℕ)))) (m n : ℕ) → Skips range s t m → rest_of [] bs ns ≡ t → Skips range (all_ranges (λ (b : List (ℕ × ℕ)). b) bs) (all_ranges (λ (b : List (ℕ × ℕ)). b) bs') n → Skips range s (rest_of [] bs' ns) (m + n)
skip_next_block range s t bs bs' ns m n p e q =
    skip_transitive range s t (rest_of [] bs' ns) m n p (subst (λ (l : List (ℕ × ℕ)). Skips range l (rest_of [] bs' ns) n) e (skip_in_blocks range bs bs' ns n q))

-- all remaining ranges of a block were skipped, and then blocks
pub skip_in_block : (range : ℕ × ℕ) (rs rs' : List (ℕ × ℕ)) (bs : List (List (ℕ × ℕ))) (ns : List (List (List (ℕ × ℕ)))) (left : List (ℕ × ℕ)) (m n : ℕ) → Skips range (all_ranges (λ (r : ℕ × ℕ). r ∷ []) rs) (all_ranges (λ (r : ℕ × ℕ). r ∷ []) rs') m → length rs' < 1 → Skips range (rest_of [] bs ns) left n → Skips range (rest_of rs bs ns) left (m + n)
skip_in_block range rs rs' bs ns left m n p none q =
    let e : rs' ≡ [] = none_there rs' (omega arith) in
    let first = subst (λ (l : List (ℕ × ℕ)). Skips range (rest_of rs bs ns) (rest_of l bs ns) m) e (skip_in_ranges range rs rs' bs ns m p) in
    skip_transitive range (rest_of rs bs ns) (rest_of [] bs ns) left m n first q

-- then ranges of the next block were skipped
pub skip_across_blocks : (range : ℕ × ℕ) (s : List (ℕ × ℕ)) (block rs : List (ℕ × ℕ)) (bs bs' : List (List (ℕ × ℕ))) (ns : List (List (List (ℕ × ℕ)))) (m n : ℕ) → Skips range s (rest_of [] bs ns) m → rest_of [] bs ns ≡ block ++ rest_of [] bs' ns → Skips range (all_ranges (λ (r : ℕ × ℕ). r ∷ []) block) (all_ranges (λ (r : ℕ × ℕ). r ∷ []) rs) n → Skips range s (rest_of rs bs' ns) (m + n)
skip_across_blocks range s block rs bs bs' ns m n p e q =
    skip_transitive range s (rest_of block bs' ns) (rest_of rs bs' ns) m n (subst (λ (l : List (ℕ × ℕ)). Skips range s l m) e p) (skip_in_ranges range block rs bs' ns n q)

-- ---- the first range that ends after a limit

first_after_of_single_ranges : (limit : ℕ) (run rs : List (ℕ × ℕ)) → IsFirstAfter limit run (all_ranges (λ (r : ℕ × ℕ). r ∷ []) rs) → IsFirstAfter limit run rs
first_after_of_single_ranges limit run rs f = subst (λ (l : List (ℕ × ℕ)). IsFirstAfter limit run l) (all_ranges-ranges rs) f

pub normal_ranges : (rs : List (ℕ × ℕ)) → IsNormal rs → IsNormal (all_ranges (λ (r : ℕ × ℕ). r ∷ []) rs)
normal_ranges rs normal = subst IsNormal (sym (all_ranges-ranges rs)) normal

first_after_of_copied : (limit : ℕ) (rs : List (ℕ × ℕ)) (lent : Option (Bor (ℕ × ℕ))) → MatchOption lent (EndsBy limit (all_ranges (λ (r : ℕ × ℕ). r ∷ []) rs)) (λ (x : Bor (ℕ × ℕ)). IsFirstAfter limit (x.now ∷ []) (all_ranges (λ (r : ℕ × ℕ). r ∷ []) rs)) → MatchOption (option_copied lent) (EndsBy limit rs) (λ (r : ℕ × ℕ). IsFirstAfter limit (r ∷ []) rs)
first_after_of_copied limit rs None found = subst (EndsBy limit) (all_ranges-ranges rs) found
first_after_of_copied limit rs (Some x) found = first_after_of_single_ranges limit (x.now ∷ []) rs found

pub range_read : (limit : ℕ) (rs : List (ℕ × ℕ)) (lent : Option (Bor (ℕ × ℕ))) (range : Option (ℕ × ℕ)) → MatchOption lent (EndsBy limit (all_ranges (λ (r : ℕ × ℕ). r ∷ []) rs)) (λ (x : Bor (ℕ × ℕ)). IsFirstAfter limit (x.now ∷ []) (all_ranges (λ (r : ℕ × ℕ). r ∷ []) rs)) → range ≡ option_copied lent → MatchOption range (EndsBy limit rs) (λ (r : ℕ × ℕ). IsFirstAfter limit (r ∷ []) rs)
range_read limit rs lent range found e =
    subst (λ (r : Option (ℕ × ℕ)). MatchOption r (EndsBy limit rs) (λ (r : ℕ × ℕ). IsFirstAfter limit (r ∷ []) rs)) (sym e) (first_after_of_copied limit rs lent found)

-- the node, among all nodes
pub first_after_in_node : (limit : ℕ) (node : List (List (ℕ × ℕ))) (nodes : List (List (List (ℕ × ℕ)))) → IsFirstAfter limit (concat node) (all_ranges (λ (n : List (List (ℕ × ℕ))). concat n) nodes) → IsFirstAfter limit (concat node) (concat (concat nodes))
first_after_in_node limit node nodes f = subst (λ (l : List (ℕ × ℕ)). IsFirstAfter limit (concat node) l) (all_ranges-nodes nodes) f

pub no_node_ends_after : (limit : ℕ) (nodes : List (List (List (ℕ × ℕ)))) (range : Option (ℕ × ℕ)) → range ≡ None → EndsBy limit (all_ranges (λ (n : List (List (ℕ × ℕ))). concat n) nodes) → MatchOption range (EndsBy limit (concat (concat nodes))) (λ (r : ℕ × ℕ). IsFirstAfter limit (r ∷ []) (concat (concat nodes)))
no_node_ends_after limit nodes range none ended =
    subst (λ (r : Option (ℕ × ℕ)). MatchOption r (EndsBy limit (concat (concat nodes))) (λ (r : ℕ × ℕ). IsFirstAfter limit (r ∷ []) (concat (concat nodes)))) (sym none) (subst (EndsBy limit) (all_ranges-nodes nodes) ended)

-- the block, among the blocks of this node
pub first_after_in_block : (limit : ℕ) (block : List (ℕ × ℕ)) (blocks node : List (List (ℕ × ℕ))) (nodes : List (List (List (ℕ × ℕ)))) → IsFirstAfter limit (concat node) (concat (concat nodes)) → blocks ≡ node → IsFirstAfter limit block (all_ranges (λ (b : List (ℕ × ℕ)). b) blocks) → IsFirstAfter limit block (concat (concat nodes))
first_after_in_block limit block blocks node nodes outer same f =
    first_after_in_run limit block (concat node) (concat (concat nodes)) outer (subst (λ (l : List (ℕ × ℕ)). IsFirstAfter limit block l) (all_ranges-blocks blocks ∙ ap concat same) f)

pub no_block_ends_after : (limit : ℕ) (blocks node : List (List (ℕ × ℕ))) (nodes : List (List (List (ℕ × ℕ)))) → IsFirstAfter limit (concat node) (concat (concat nodes)) → blocks ≡ node → EndsBy limit (all_ranges (λ (b : List (ℕ × ℕ)). b) blocks) → ⊥
no_block_ends_after limit blocks node nodes outer same ended =
    first_after_excludes_end limit (concat node) (concat (concat nodes)) outer (subst (EndsBy limit) (all_ranges-blocks blocks ∙ ap concat same) ended)

-- the range, among the ranges of this block
pub first_range_after_in_block : (limit : ℕ) (ranges block whole : List (ℕ × ℕ)) (range : Option (ℕ × ℕ)) → IsFirstAfter limit block whole → ranges ≡ block → MatchOption range (EndsBy limit ranges) (λ (r : ℕ × ℕ). IsFirstAfter limit (r ∷ []) ranges) → MatchOption range (EndsBy limit whole) (λ (r : ℕ × ℕ). IsFirstAfter limit (r ∷ []) whole)
first_range_after_in_block limit ranges block whole None outer same found = absurd (first_after_excludes_end limit block whole outer (subst (EndsBy limit) same found))
first_range_after_in_block limit ranges block whole (Some r) outer same found = first_after_in_run limit (r ∷ []) block whole outer (subst (λ (l : List (ℕ × ℕ)). IsFirstAfter limit (r ∷ []) l) same found)
