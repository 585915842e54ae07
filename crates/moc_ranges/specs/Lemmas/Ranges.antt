-- Lemmas on lists of ranges.
use Rattle.std.specs.Prelude.{◌≡◌, ℕ, ◌<◌, ◌≤◌, List, [], ◌∷◌}
use Rattle.std.specs.FinSet as set
use Rattle.std.proofs.lemmas.Bool.Decides.{nat_tests}
use Rattle.std.proofs.lemmas.Bool.{cases_lt}
use Rattle.std.proofs.Common.{◌∙◌, true, false, refl, sym, ap, arith, inl, inr, ◌⊎◌}
use Rattle.moc_blocks.specs.Lemmas.Members.{contains-set_of, in_ranges}
use Rattle.moc_blocks.specs.RangeList.{set_of, IsNormal}
use Rattle.moc_blocks.specs.Lemmas.Ranges.{later_only}

pub in_first : (range : ℕ × ℕ) (ranges : List (ℕ × ℕ)) (q : ℕ) → range.0 ≤ q → q < range.1
    → in_ranges (range ∷ ranges) q ≡ true
in_first range ranges q from to = grind (arith, nat_tests)

pub not_before : (range : ℕ × ℕ) (ranges : List (ℕ × ℕ)) → IsNormal (range ∷ ranges) → (q : ℕ) → q < range.0
    → in_ranges (range ∷ ranges) q ≡ false
not_before range ranges normal q lt =
    let rest = later_only range.1 q ranges normal.3 normal.2 (omega arith) in grind (arith, nat_tests)

pub at_end : (range : ℕ × ℕ) (ranges : List (ℕ × ℕ)) → IsNormal (range ∷ ranges)
    → in_ranges (range ∷ ranges) range.1 ≡ false
at_end range ranges normal =
    let rest = later_only range.1 range.1 ranges normal.3 normal.2 (omega arith) in grind (arith, nat_tests)

without_first : (range : ℕ × ℕ) (ranges : List (ℕ × ℕ)) (q : ℕ) → range.1 ≤ q
    → in_ranges (range ∷ ranges) q ≡ in_ranges ranges q
without_first range ranges q le = grind (arith, nat_tests)

same_ranges : (rs ss : List (ℕ × ℕ)) → IsNormal rs → IsNormal ss → ((q : ℕ) → in_ranges rs q ≡ in_ranges ss q) → rs ≡ ss
same_ranges [] [] n m same = refl
same_ranges [] (s ∷ ss) n m same =
    absurd (let a = same s.0 in let b = in_first s ss s.0 (omega arith) (omega arith) in cc)
same_ranges (r ∷ rs) [] n m same =
    absurd (let a = same r.0 in let b = in_first r rs r.0 (omega arith) (omega arith) in cc)
same_ranges (r ∷ rs) (s ∷ ss) n m same =
    let low : (r.0 < s.0) → ⊥ = λ lt.
    let a = same r.0 in
    let b = in_first r rs r.0 (omega arith) (omega arith) in
    let d = not_before s ss m r.0 lt in
    cc in
    let high : (s.0 < r.0) → ⊥ = λ lt.
    let a = same s.0 in
    let b = in_first s ss s.0 (omega arith) (omega arith) in
    let d = not_before r rs n s.0 lt in
    cc in
    let from : r.0 ≡ s.0 = omega arith in
    let short : (r.1 < s.1) → ⊥ = λ lt.
    let a = same r.1 in
    let b = in_first s ss r.1 (omega arith) (omega arith) in
    let d = at_end r rs n in
    cc in
    let long : (s.1 < r.1) → ⊥ = λ lt.
    let a = same s.1 in
    let b = in_first r rs s.1 (omega arith) (omega arith) in
    let d = at_end s ss m in
    cc in
    let to : r.1 ≡ s.1 = omega arith in
    let rest : (q : ℕ) → in_ranges rs q ≡ in_ranges ss q = λ q. elim (cases_lt q r.1) [
      | inl lt ↦ later_only r.1 q rs n.3 n.2 (omega arith) ∙ sym (later_only s.1 q ss m.3 m.2 (omega arith))
      | inr ge ↦ sym (without_first r rs q ge) ∙ same q ∙ without_first s ss q (omega arith)
    ] in
    λ i. (from i, to i) ∷ same_ranges rs ss n.3 m.3 rest i

-- a set has at most one normal range list
pub same_normal : (rs ss : List (ℕ × ℕ)) → IsNormal rs → IsNormal ss → set_of rs ≡ set_of ss → rs ≡ ss
same_normal rs ss n m same =
    same_ranges rs ss n m (λ q. sym (contains-set_of rs q) ∙ ap (λ a. set.contains a q) same ∙ contains-set_of ss q)

-- consecutive numbers are inside one range of the list
abbrev pub IsInsideOne : ℕ → ℕ → List (ℕ × ℕ) → Type 0
IsInsideOne low high [] = ⊥
IsInsideOne low high (range ∷ ranges) = ((range.0 ≤ low) × (high ≤ range.1)) ⊎ IsInsideOne low high ranges

-- consecutive numbers that are all in a normal list's set are inside one of its ranges
pub inside_one : (low high : ℕ) (ranges : List (ℕ × ℕ)) → low < high → IsNormal ranges
    → ((q : ℕ) → low ≤ q → q < high → in_ranges ranges q ≡ true) → IsInsideOne low high ranges
inside_one low high [] lt normal all = absurd (let here = all low (omega arith) lt in cc)
inside_one low high (range ∷ ranges) lt normal all = elim (cases_lt low range.1) [
  | inl before ↦
      let begun : (low < range.0) → ⊥ =
      λ early. let a = all low (omega arith) lt in let b = not_before range ranges normal low early in cc in
      let whole : (range.1 < high) → ⊥ =
      λ past. let a = all range.1 (omega arith) past in let b = at_end range ranges normal in cc in
      inl (omega arith, omega arith)
  | inr past ↦
      inr (inside_one low high ranges lt normal.3 (λ q from to.
      sym (without_first range ranges q (omega arith)) ∙ all q from to))
]
