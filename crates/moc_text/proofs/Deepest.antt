-- The deepest of cells in ascending order.
use Rattle.std.proofs.Common.{◌≡◌, ℕ, zero, suc, ◌-◌, ◌<◌, ◌≤◌, List, [], ◌∷◌, length, max, Option, Some, None, refl, ap, ◌∙◌, arith, ◌⊎◌, inl, inr}
use Rattle.std.specs.Prelude.{slice_index_or, slice_get}
use Rattle.std.proofs.lemmas.Bool.{cases_lt}
use Rattle.moc_sphere.specs.CellNumber.{CellNumber}
use Rattle.moc_text.specs.Ascii.{deeper}
use Rattle.std.specs.List.{Any}
use Rattle.std.specs.Option.{IsSomeAnd}
use Rattle.moc_text.specs.AsciiText.{deepest_cell}
use Rattle.moc_text.specs.Private.AsciiWriting.{AreAscending}

-- some cell is deeper than the stated order
abbrev pub HasDeeper : List CellNumber → Option ℕ → Type 0
HasDeeper cells stated = IsSomeAnd stated (λ k. Any (λ (c : CellNumber). k < c.order) cells)

next_index : (c : CellNumber) (cells : List CellNumber) → 1 ≤ length cells → length (c ∷ cells) - 1 ≡ suc (length cells - 1)
next_index c cells some = omega arith

last_from : (j : ℕ) (cells : List CellNumber) (d : CellNumber) → AreAscending j cells → Some d ≡ slice_get cells (length cells - 1) → j ≤ d.order
last_from j [] d h is = absurd cc
last_from j (c ∷ []) d h is = let same : d ≡ c = cc in omega (arith, h.0, ap (λ (x : CellNumber). x.order) same)
last_from j (c ∷ e ∷ cells) d h is = omega (arith, h.0, last_from c.order (e ∷ cells) d h.1 (is ∙ ap (slice_get (c ∷ e ∷ cells)) (next_index c (e ∷ cells) (omega arith))))

-- the last cell is the deepest
pub last_is_deepest : (j : ℕ) (cells : List CellNumber) (d : CellNumber) → AreAscending j cells → Some d ≡ slice_get cells (length cells - 1) → Some d.order ≡ deepest_cell cells
last_is_deepest j [] d h is = absurd cc
last_is_deepest j (c ∷ []) d h is = let same : d ≡ c = cc in ap (λ (x : CellNumber). Some x.order) same
last_is_deepest j (c ∷ e ∷ cells) d h is =
    let later : Some d ≡ slice_get (e ∷ cells) (length (e ∷ cells) - 1) = is ∙ ap (slice_get (c ∷ e ∷ cells)) (next_index c (e ∷ cells) (omega arith)) in
    let from : c.order ≤ d.order = last_from c.order (e ∷ cells) d h.1 later in
    ap (λ (n : ℕ). Some n) (omega (arith, from)) ∙ ap (deeper (Some c.order)) (last_is_deepest c.order (e ∷ cells) d h.1 later)

deeper_later : (c : CellNumber) (cells : List CellNumber) (k : ℕ) → HasDeeper cells (Some k) → HasDeeper (c ∷ cells) (Some k)
deeper_later c cells k x = (suc x.0, x.1, omega (arith, x.2), x.3, x.4)

deeper_none : (j : ℕ) (x : Option ℕ) → deeper (Some j) x ≡ None → ⊥
deeper_none j None e = absurd cc
deeper_none j (Some k) e = absurd cc

-- the maximum of two is one of them
greater : (j n : ℕ) (x : Option ℕ) → deeper (Some j) x ≡ Some n → (j ≡ n) ⊎ (x ≡ Some n)
greater j n None e = let same : j ≡ n = cc in inl same
greater j n (Some m) e =
    let same : max j m ≡ n = cc in
    elim (cases_lt j m) [ inl lt ↦ inr (ap (λ (i : ℕ). Some i) (omega arith)) | inr le ↦ inl (omega arith) ]

-- some cell has the deepest order
pub deepest_is_deeper : (cells : List CellNumber) (k n : ℕ) → deepest_cell cells ≡ Some n → k < n → HasDeeper cells (Some k)
deepest_is_deeper [] k n e lt = absurd cc
deepest_is_deeper (c ∷ cells) k n e lt = elim (greater c.order n (deepest_cell cells) e) [
  | inl same ↦ (0, c, omega arith, refl, omega arith)
  | inr later ↦ deeper_later c cells k (deepest_is_deeper cells k n later lt)
]

no_cell : (cells : List CellNumber) (i : ℕ) (c : CellNumber) → deepest_cell cells ≡ None → i < length cells → ⊥
no_cell [] i c none lt = omega arith
no_cell (b ∷ cells) i c none lt = deeper_none b.order (deepest_cell cells) none

-- every cell is at most as deep
within_deepest : (cells : List CellNumber) (n i : ℕ) (c : CellNumber) → deepest_cell cells ≡ Some n → i < length cells → slice_index_or cells i c ≡ c → c.order ≤ n
within_deepest [] n i c e lt is = absurd (omega arith)
within_deepest (d ∷ cells) n zero c e lt is =
    let same : d.order ≡ c.order = ap (λ (x : CellNumber). x.order) is in
    omega (arith, first_within d.order n (deepest_cell cells) e)
  where
    first_within : (j n : ℕ) (x : Option ℕ) → deeper (Some j) x ≡ Some n → j ≤ n
    first_within j n None e = let same : j ≡ n = cc in omega arith
    first_within j n (Some m) e = let same : max j m ≡ n = cc in omega arith
within_deepest (d ∷ cells) n (suc i) c e lt is = later (deepest_cell cells) refl e (λ m found. within_deepest cells m i c found (omega arith) is)
  where
    later : (x : Option ℕ) → deepest_cell cells ≡ x → deeper (Some d.order) x ≡ Some n → ((m : ℕ) → deepest_cell cells ≡ Some m → c.order ≤ m) → c.order ≤ n
    later None none e within = absurd (no_cell cells i c none (omega arith))
    later (Some m) found e within =
        let same : max d.order m ≡ n = cc in
        omega (arith, within m found)

-- no cell is deeper
pub none_is_deeper : (cells : List CellNumber) (k n : ℕ) → deepest_cell cells ≡ Some n → n ≤ k → HasDeeper cells (Some k) → ⊥
none_is_deeper cells k n e le h = omega (arith, within_deepest cells n h.0 h.1 e h.2 h.3, h.4)

pub no_cells_no_deeper : (cells : List CellNumber) (k : ℕ) → deepest_cell cells ≡ None → HasDeeper cells (Some k) → ⊥
no_cells_no_deeper [] k e h = omega (arith, h.2)
no_cells_no_deeper (c ∷ cells) k e h = deeper_none c.order (deepest_cell cells) e
