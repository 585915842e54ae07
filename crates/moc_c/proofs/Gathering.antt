-- The pixels of cells, one cell at a time.
use Rattle.std.proofs.Common.{◌≡◌, ℕ, ◌<◌, ◌≤◌, ◌+◌, ◌^◌, List, [], ◌∷◌, ◌++◌, length, drop, take, get_or, map, refl, ap, ◌∙◌, sym, zero, suc, subst, arith}
use Rattle.std.proofs.Common.{inl, inr}
use Rattle.std.proofs.lemmas.Bool.{cases_lt}
use Rattle.std.proofs.Math.Seq.{drop-cons}
use Rattle.std.proofs.lemmas.List.{drop_all, take_all, take_more}
use Rattle.std.specs.FinSet as set
use Rattle.std.specs.List.{AllByRecursion}
use Rattle.moc_sphere.specs.CellNumber.{CellNumber, cell_number, IsCell, uniq_of}
use Rattle.moc_lists.specs.RangeList.{NumberSet}
use Rattle.moc_ranges.specs.Cells.{pixels_of, span}
use Rattle.moc_ranges.specs.Lemmas.{union-assoc, union-empty, pixels_of-append}

-- ---- cells of one order

pub one_more : (o : ℕ) (xs : List ℕ) (i : ℕ) (a b : NumberSet) → i < length xs → b ≡ set.union a (span o (get_or xs i 0))
    → set.union b (pixels_of (map (cell_number o) (drop (i + 1) xs))) ≡ set.union a (pixels_of (map (cell_number o) (drop i xs)))
unfolding pixels_of
one_more o xs i a b lt is =
    let next : suc i ≡ i + 1 = omega arith in
    let cut : drop i xs ≡ get_or xs i 0 ∷ drop (i + 1) xs = subst (λ n. drop i xs ≡ get_or xs i 0 ∷ drop n xs) next (drop-cons xs i 0 lt) in
    let rest : NumberSet = pixels_of (map (cell_number o) (drop (i + 1) xs)) in
    ap (λ s. set.union s rest) is ∙ union-assoc a (span o (get_or xs i 0)) rest
    ∙ ap (λ ys. set.union a (pixels_of (map (cell_number o) ys))) (sym cut)

pub none_left : (o : ℕ) (xs : List ℕ) (i : ℕ) (a : NumberSet) → length xs ≤ i → set.union a (pixels_of (map (cell_number o) (drop i xs))) ≡ a
unfolding pixels_of
none_left o xs i a le =
    ap (λ ys. set.union a (pixels_of (map (cell_number o) ys))) (drop_all i xs le) ∙ union-empty a

-- the set of one cell
pub pixels_of_one_cell : (o x : ℕ) (a : NumberSet) → a ≡ span o x → a ≡ pixels_of (map (cell_number o) (x ∷ []))
unfolding pixels_of
pixels_of_one_cell o x a is = is ∙ sym (union-empty (span o x))

pub one_below : (x m : ℕ) → x < m → (k : ℕ) → k < 1 → get_or (x ∷ []) k 0 < m
one_below x m below zero lt = below
one_below x m below (suc k) lt = absurd (omega (arith, lt))

-- ---- NUNIQ numbers

-- the first numbers are those of cells with these pixels
pub record AreGathered (uniqs : List ℕ) (i : ℕ) (a : NumberSet) : Type 0 where
  pub cells : List CellNumber
  pub are_cells : AllByRecursion IsCell cells
  pub numbers : map uniq_of cells ≡ take i uniqs
  pub pixels_are : a ≡ pixels_of cells
  pub are_uniqs : (k : ℕ) → k < i → (4 ≤ get_or uniqs k 0) × (get_or uniqs k 0 < 2 ^ 62)

pub gathered_none : (uniqs : List ℕ) (a : NumberSet) → a ≡ set.empty → AreGathered uniqs 0 a
unfolding pixels_of
gathered_none uniqs a is =
    record { cells = []; are_cells = tt; numbers = refl; pixels_are = is; are_uniqs = λ k lt. absurd (omega arith) }

cells_and : (cells : List CellNumber) (c : CellNumber) → AllByRecursion IsCell cells → IsCell c → AllByRecursion IsCell (cells ++ c ∷ [])
cells_and [] c h is = (is, tt)
cells_and (d ∷ cells) c h is = (h.0, cells_and cells c h.1 is)

map_and : (cells : List CellNumber) (c : CellNumber) → map uniq_of (cells ++ c ∷ []) ≡ map uniq_of cells ++ uniq_of c ∷ []
map_and [] c = refl
map_and (d ∷ cells) c = ap (λ ys. uniq_of d ∷ ys) (map_and cells c)

pub gathered_more : (uniqs : List ℕ) (i : ℕ) (a b : NumberSet) (c : CellNumber) → AreGathered uniqs i a → i < length uniqs → IsCell c → uniq_of c ≡ get_or uniqs i 0
    → (4 ≤ get_or uniqs i 0) × (get_or uniqs i 0 < 2 ^ 62) → b ≡ set.union a (span c.order c.index) → AreGathered uniqs (i + 1) b
unfolding pixels_of
gathered_more uniqs i a b c g lt is number range added =
    record {
      cells = g.cells ++ c ∷ [];
      are_cells = cells_and g.cells c g.are_cells is;
      numbers = map_and g.cells c ∙ (λ j. g.numbers j ++ number j ∷ []) ∙ sym (take_more uniqs i 0 lt);
      pixels_are = added ∙ ap (λ s. set.union s (span c.order c.index)) g.pixels_are
          ∙ ap (set.union (pixels_of g.cells)) (sym (union-empty (span c.order c.index))) ∙ sym (pixels_of-append g.cells (c ∷ []));
      are_uniqs = below_or_at uniqs i g.are_uniqs range;
    }
  where
    below_or_at : (uniqs : List ℕ) (i : ℕ) → ((k : ℕ) → k < i → (4 ≤ get_or uniqs k 0) × (get_or uniqs k 0 < 2 ^ 62)) → (4 ≤ get_or uniqs i 0) × (get_or uniqs i 0 < 2 ^ 62)
        → (k : ℕ) → k < i + 1 → (4 ≤ get_or uniqs k 0) × (get_or uniqs k 0 < 2 ^ 62)
    below_or_at uniqs i h range k lt = elim (cases_lt k i) [ inl below ↦ h k below | inr le ↦ let e : i ≡ k = omega arith in subst (λ n. (4 ≤ get_or uniqs n 0) × (get_or uniqs n 0 < 2 ^ 62)) e range ]

pub all_gathered : (uniqs : List ℕ) (i : ℕ) (b a : NumberSet) → AreGathered uniqs i b → length uniqs ≤ i → a ≡ b
    → (cells : List CellNumber) × AllByRecursion IsCell cells × (map uniq_of cells ≡ uniqs) × (a ≡ pixels_of cells)
all_gathered uniqs i b a g le is = (g.cells, g.are_cells, g.numbers ∙ take_all i uniqs le, is ∙ g.pixels_are)

pub in_all : (uniqs : List ℕ) (i : ℕ) (a : NumberSet) → AreGathered uniqs i a → length uniqs ≤ i
    → (k : ℕ) → k < length uniqs → (4 ≤ get_or uniqs k 0) × (get_or uniqs k 0 < 2 ^ 62)
in_all uniqs i a g le = λ k lt. g.are_uniqs k (omega arith)
