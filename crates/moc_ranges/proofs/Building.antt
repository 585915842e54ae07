-- The state of a list builder, block by block.
use Rattle.std.proofs.Common.{◌≡◌, ℕ, ◌+◌, ◌<◌, ◌≤◌, ◌||◌, List, [], ◌∷◌, ◌++◌, length, get_or}
use Rattle.std.proofs.Common.{take, max, sym, ap, subst, ◌∙◌, arith}
use Rattle.std.proofs.lemmas.List.{take_more, take_all, take_more_set, length-set}
use Rattle.std.proofs.Math.ListN.{set}
use Rattle.moc_blocks.specs.RangeList.{pixel_count, IsNormal}
use Rattle.moc_ranges.specs.Private.Sorted.{IsSortedFrom}
use Rattle.moc_blocks.specs.Lemmas.Members.{in_range, in_ranges, in_ranges-append, or_false, or_assoc}
use Rattle.moc_blocks.specs.Private.Blocks.{last_of}
use Rattle.moc_blocks.proofs.Blocking.{IsNormal-suffix}
use Rattle.moc_blocks.proofs.Building.{longer_normal, last_of-last, longer_range, last_range_nonempty}
use Rattle.moc_ranges.proofs.Sorting.{IsSortedFrom-less}

-- the last range of a list, extended in its place
pub last_split : (rs : List (ℕ × ℕ)) (i : ℕ) (last : ℕ × ℕ) → i + 1 ≡ length rs → last ≡ get_or rs i last → rs ≡ take i rs ++ last ∷ []
last_split rs i last at is =
    sym (take_all (i + 1) rs (omega arith)) ∙ take_more rs i last (omega arith) ∙ ap (λ (r : ℕ × ℕ). take i rs ++ r ∷ []) (sym is)

pub last_set : (rs : List (ℕ × ℕ)) (i : ℕ) (last : ℕ × ℕ) → i + 1 ≡ length rs → set rs i last ≡ take i rs ++ last ∷ []
last_set rs i last at =
    sym (take_all (i + 1) (set rs i last) (omega (arith, length-set rs i last))) ∙ take_more_set rs i last (omega arith)

pub lengthened_normal : (rs : List (ℕ × ℕ)) (i : ℕ) (last : ℕ × ℕ) (to end : ℕ) → IsNormal rs → i + 1 ≡ length rs → last ≡ get_or rs i last → end ≡ max last.1 to → to ≤ pixel_count → IsNormal (set rs i (last.0, end))
lengthened_normal rs i last to end normal at is longer within =
    let whole = subst IsNormal (last_split rs i last at is) normal in
    let parts = IsNormal-suffix (take i rs) (last ∷ []) whole in
    subst IsNormal (sym (last_set rs i (last.0, end) at)) (longer_normal (take i rs) last end whole (omega arith) (omega (arith, parts.1)))

pub lengthened_same : (rs : List (ℕ × ℕ)) (i : ℕ) (last : ℕ × ℕ) (from to end : ℕ) → IsNormal rs → i + 1 ≡ length rs → last ≡ get_or rs i last → end ≡ max last.1 to → last.0 ≤ from → from ≤ last_of rs → from < to → (q : ℕ) → in_ranges (set rs i (last.0, end)) q ≡ (in_ranges rs q || in_range (from, to) q)
lengthened_same rs i last from to end normal at is longer begins reached filled q =
    let split = last_split rs i last at is in
    let b : from ≤ last.1 = omega (arith, ap last_of split ∙ last_of-last (take i rs) last) in
    let ab : last.0 < last.1 = last_range_nonempty (take i rs) last (subst IsNormal split normal) in
    ap (λ (l : List (ℕ × ℕ)). in_ranges l q) (last_set rs i (last.0, end) at)
    ∙ in_ranges-append (take i rs) ((last.0, end) ∷ []) q
    ∙ ap (λ e. in_ranges (take i rs) q || in_ranges ((last.0, e) ∷ []) q) longer
    ∙ longer_range last.0 last.1 from to q (in_ranges (take i rs) q) begins b ab filled
    ∙ ap (λ x. x || in_range (from, to) q) (sym (in_ranges-append (take i rs) (last ∷ []) q) ∙ ap (λ (l : List (ℕ × ℕ)). in_ranges l q) (sym split))

-- the invariant of merging the remaining ranges into the result
pub record IsLengthened (ks : List (ℕ × ℕ)) (last : ℕ × ℕ) (rest whole : List (ℕ × ℕ)) : Type 0 where
  pub opened : IsNormal (ks ++ last ∷ [])
  pub sorted : IsSortedFrom last.0 rest
  pub same : (q : ℕ) → (in_ranges (ks ++ last ∷ []) q || in_ranges rest q) ≡ in_ranges whole q

pub lengthened_start : (ks rest whole : List (ℕ × ℕ)) (last : ℕ × ℕ) → ks ≡ [] → IsSortedFrom 0 whole → whole ≡ last ∷ rest → IsLengthened ks last rest whole
lengthened_start ks rest whole last n sorted is =
    let parts = subst (λ (l : List (ℕ × ℕ)). IsSortedFrom 0 l) is sorted in
    let start : IsLengthened [] last rest whole = record {
      opened = (parts.1, parts.2, tt, tt);
      sorted = parts.3;
      same = λ q. ap (λ b. b || in_ranges rest q) (or_false (in_range last q)) ∙ ap (λ (l : List (ℕ × ℕ)). in_ranges l q) (sym is);
    } in
    rw n start

pub lengthened_more : (ks ks' rest rest' whole : List (ℕ × ℕ)) (last last' range : ℕ × ℕ) → IsLengthened ks last rest whole → rest ≡ range ∷ rest' → IsNormal (ks' ++ last' ∷ []) → last'.0 ≤ range.0 → ((q : ℕ) → in_ranges (ks' ++ last' ∷ []) q ≡ (in_ranges (ks ++ last ∷ []) q || in_range range q)) → IsLengthened ks' last' rest' whole
lengthened_more ks ks' rest rest' whole last last' range s is opened later same = record {
  opened = opened;
  sorted = IsSortedFrom-less range.0 last'.0 rest' later (subst (λ (l : List (ℕ × ℕ)). IsSortedFrom last.0 l) is s.sorted).3;
  same = λ q. ap (λ b. b || in_ranges rest' q) (same q)
      ∙ or_assoc (in_ranges (ks ++ last ∷ []) q) (in_range range q) (in_ranges rest' q)
      ∙ ap (λ (l : List (ℕ × ℕ)). in_ranges (ks ++ last ∷ []) q || in_ranges l q) (sym is) ∙ s.same q;
}

pub lengthened_next : (last range : ℕ × ℕ) (rest rest' : List (ℕ × ℕ)) → IsSortedFrom last.0 rest → rest ≡ range ∷ rest' → (last.0 ≤ range.0) × (range.0 < range.1) × (range.1 ≤ pixel_count)
lengthened_next last range rest rest' sorted is = let p = subst (λ (l : List (ℕ × ℕ)). IsSortedFrom last.0 l) is sorted in (p.0, p.1, p.2)

pub lengthened_all : (ks rest whole kept : List (ℕ × ℕ)) (last : ℕ × ℕ) → IsLengthened ks last rest whole → rest ≡ [] → kept ≡ ks ++ last ∷ [] → (q : ℕ) → in_ranges kept q ≡ in_ranges whole q
lengthened_all ks rest whole kept last s none is q =
    ap (λ (l : List (ℕ × ℕ)). in_ranges l q) is ∙ sym (or_false (in_ranges (ks ++ last ∷ []) q))
    ∙ ap (λ (l : List (ℕ × ℕ)). in_ranges (ks ++ last ∷ []) q || in_ranges l q) (sym none) ∙ s.same q
