-- Ranges that are copied to the front of a buffer, one at a time.
use Rattle.std.proofs.Common.{◌≡◌, ℕ, suc, ◌+◌, ◌<◌, ◌≤◌, List, [], ◌∷◌, ◌++◌, length, take, drop, set, inl, sym, ap, ◌∙◌, arith}
use Rattle.std.proofs.lemmas.List.{append_assoc, append-nil, length-append, length-map, map-append, take_more_set, drop-set-lt}
use Rattle.std.proofs.lemmas.List.{length-set, drop-drop}
use Rattle.moc_c.specs.Buffers.{Fills, ranges_from}
use Rattle.moc_c.specs.CallResults.{number_result}
use Rattle.moc_c.specs.declared.call_result.CallResult.{CallResult}
use Rattle.moc_c.specs.declared.range.Range.{Range}

-- a pair as a range
abbrev range : ℕ × ℕ → Range
range x = record { from = x.0; to = x.1 }

-- the rest of a buffer is unchanged if one more item is written after the first ones
pub same_rest : {X : Type 0} (old out : List X) (at : ℕ) (x : X) → at < length out → drop at out ≡ drop at old
    → drop (at + 1) (set out at x) ≡ drop (at + 1) old
same_rest old out at x lt same =
    drop-set-lt (at + 1) out at x (omega arith) ∙ sym (drop-drop 1 at out) ∙ ap (drop 1) same ∙ drop-drop 1 at old

-- the written pairs and the pairs that are left are all pairs; there is space for all; the rest is unchanged
abbrev pub IsFilling : List Range → List (ℕ × ℕ) → List (ℕ × ℕ) → List (ℕ × ℕ) → List Range → ℕ → Type 0
IsFilling old all before left out at =
    (all ≡ before ++ left) × (length all ≤ length out) × (at ≡ length before) × (take at out ≡ ranges_from before)
    × (drop at out ≡ drop at old)

pub has_capacity : (old : List Range) (all before left rest : List (ℕ × ℕ)) (out : List Range) (at : ℕ) (x : ℕ × ℕ)
    → IsFilling old all before left out at → left ≡ x ∷ rest → at < length out
has_capacity old all before left rest out at x f is =
    let sum : length all ≡ length before + length left = ap length f.0 ∙ length-append before left in
    let one : length left ≡ suc (length rest) = ap length is in omega (arith, f.1, f.2)

pub filling_more : (old : List Range) (all before left rest : List (ℕ × ℕ)) (out : List Range) (at : ℕ) (x : ℕ × ℕ)
    → IsFilling old all before left out at → left ≡ x ∷ rest
    → IsFilling old all (before ++ x ∷ []) rest (set out at (range x)) (at + 1)
filling_more old all before left rest out at x f is = (
  f.0 ∙ ap (λ ys. before ++ ys) is ∙ sym (append_assoc before (x ∷ []) rest),
  omega (arith, f.1, length-set out at (range x)),
  ap (λ n. n + 1) f.2 ∙ sym (length-append before (x ∷ [])),
  take_more_set out at (range x) (has_capacity old all before left rest out at x f is) ∙ ap (λ ys. ys ++ range x ∷ []) f.3 ∙ sym (map-append range before (x ∷ [])),
  same_rest old out at (range x) (has_capacity old all before left rest out at x f is) f.4,
)

pub result_of_filled : (all before left : List (ℕ × ℕ)) (old out : List Range) (at : ℕ) (o : CallResult) → IsFilling old all before left out at → left ≡ [] → o ≡ number_result (length all)
    → Fills (ranges_from all) old out o
result_of_filled all before left old out at o f none is =
    let whole : all ≡ before = f.0 ∙ ap (λ ys. before ++ ys) none ∙ append-nil before in
    let count : length (ranges_from all) ≡ length all = length-map all range in
    let place : length (ranges_from all) ≡ at = count ∙ ap length whole ∙ sym f.2 in
    inl (
      ap (λ n. take n out) place ∙ f.3 ∙ ap ranges_from (sym whole),
      ap (λ n. drop n out) place ∙ f.4 ∙ ap (λ n. drop n old) (sym place),
      is ∙ ap number_result (sym count),
    )
