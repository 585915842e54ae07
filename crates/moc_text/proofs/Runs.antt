-- The cells, order by order, as runs: ranges of indices that do not touch are the maximal runs.
use Rattle.std.proofs.Common.{◌≡◌, ℕ, zero, suc, ◌+◌, ◌-◌, ◌<◌, ◌≤◌, true, false, cond, ◌&&◌, eqb, leb, List, [], ◌∷◌, ◌++◌, map, max, Option, Some, None, refl, sym, ap, subst, ◌∙◌, inl, inr, arith, append_assoc}
use Rattle.std.specs.Option.{is_some}
use Rattle.std.specs.Iterator.{YieldsFirst}
use Rattle.std.specs.List.{filter, range_with_len, AllByRecursion}
use Rattle.std.proofs.lemmas.Bool.{cases_lt, eq-eqb, ne_eqb, eqb-true, le-leb, lt-leb, leb-true}
use Rattle.moc_sphere.specs.CellNumber.{CellNumber, cell_number}
use Rattle.moc_lists.specs.RangeList.{IsNormal, BeginsAfter}
use Rattle.moc_ranges.specs.Cells.{HaveOrders, cells_in}
use Rattle.moc_text.specs.Ascii.{deeper}
use Rattle.moc_text.specs.AsciiText.{run_of_one, follows, runs_from, runs_of, deepest_cell}
use Rattle.moc_text.specs.Private.AsciiWriting.{AreAscending, cells_from, runs_in}
use Rattle.moc_text.specs.declared.ascii.writing.Run.{Run as CellRun}

-- ---- the deepest order

abbrev pub of_order : ℕ → List CellNumber → List CellNumber
of_order k cells = filter (λ c. eqb c.order k) cells

abbrev pub AreBelow : ℕ → List CellNumber → Type 0
AreBelow k cells = AllByRecursion (λ c. c.order < k) cells

pub orders_below : (first last : ℕ) (cells : List CellNumber) → HaveOrders first last cells → AreBelow last cells
orders_below first last [] all = tt
orders_below first last (c ∷ cells) all = ((all.0).1, orders_below first last cells all.1)

-- if no cell has the last order, all cells are coarser
pub no_cells_of_last_order : (k : ℕ) (cells : List CellNumber) → AreBelow (suc k) cells → of_order k cells ≡ [] → AreBelow k cells
no_cells_of_last_order k [] all none = tt
no_cells_of_last_order k (c ∷ cells) all none =
    elim (eqb c.order k) as (λ b. eqb c.order k ≡ b → cond b (c ∷ of_order k cells) (of_order k cells) ≡ [] → AreBelow k (c ∷ cells)) [
      | true ↦ λ e none. absurd cc
      | false ↦ λ e none. (lower c.order all.0 e, no_cells_of_last_order k cells all.1 none)
    ] refl none
  where
    lower : (j : ℕ) → j < suc k → eqb j k ≡ false → j < k
    lower j lt e = elim (cases_lt j k) [
      | inl below ↦ below
      | inr le ↦ let is : eqb j k ≡ true = eq-eqb j k (omega arith) in absurd cc
    ]

deeper_below : (k : ℕ) (cells : List CellNumber) → AreBelow (suc k) cells → deeper (Some k) (deepest_cell cells) ≡ Some k
deeper_below k [] all = refl
deeper_below k (c ∷ cells) all = step (deepest_cell cells) (deeper_below k cells all.1)
  where
    step : (x : Option ℕ) → deeper (Some k) x ≡ Some k → deeper (Some k) (deeper (Some c.order) x) ≡ Some k
    step None is = ap (λ (n : ℕ). Some n) (omega (arith, all.0))
    step (Some m) is = let same : max k m ≡ k = cc in ap (λ (n : ℕ). Some n) (omega (arith, all.0, same))

-- a cell of the last order is the deepest
pub one_of_last : (k : ℕ) (cells : List CellNumber) (d : CellNumber) (ds : List CellNumber) → AreBelow (suc k) cells → of_order k cells ≡ d ∷ ds → Some k ≡ deepest_cell cells
one_of_last k [] d ds all is = absurd cc
one_of_last k (c ∷ cells) d ds all is =
    elim (eqb c.order k) as (λ b. eqb c.order k ≡ b → cond b (c ∷ of_order k cells) (of_order k cells) ≡ d ∷ ds → Some k ≡ deeper (Some c.order) (deepest_cell cells)) [
      | true ↦ λ e is. sym (ap (λ (n : ℕ). deeper (Some n) (deepest_cell cells)) (eqb-true c.order k e) ∙ deeper_below k cells all.1)
      | false ↦ λ e is. later c.order (one_of_last k cells d ds all.1 is)
    ] refl is
  where
    later : (j : ℕ) → Some k ≡ deepest_cell cells → Some k ≡ deeper (Some c.order) (deepest_cell cells)
    later j found = ap (λ (n : ℕ). Some n) (omega (arith, all.0)) ∙ ap (deeper (Some c.order)) found

-- an empty range of orders has no cells
pub none_at_all : (first last k : ℕ) (cells : List CellNumber) → HaveOrders first last cells → AreBelow k cells → k ≤ first → None ≡ deepest_cell cells
none_at_all first last k [] all below le = refl
none_at_all first last k (c ∷ cells) all below le = absurd (omega (arith, (all.0).0, below.0))

-- ---- order by order

no_cells_of_lower_order : (k j : ℕ) (cells : List CellNumber) → k < j → AreAscending j cells → of_order k cells ≡ []
no_cells_of_lower_order k j [] lt rise = refl
no_cells_of_lower_order k j (c ∷ cells) lt rise =
    rw (ne_eqb c.order k (λ e. omega (arith, rise.0, e))) (no_cells_of_lower_order k c.order cells (omega (arith, rise.0)) rise.1)

ascending_cells_are_kept : (k j : ℕ) (cells : List CellNumber) → k ≤ j → AreAscending j cells → cells_from k cells ≡ cells
ascending_cells_are_kept k j [] le rise = refl
ascending_cells_are_kept k j (c ∷ cells) le rise =
    rw (le-leb k c.order (omega (arith, rise.0))) (ap (λ (l : List CellNumber). c ∷ l) (ascending_cells_are_kept k c.order cells (omega (arith, rise.0)) rise.1))

-- the cells from an order on are those of the order and those from the next order on
pub order_first : (k j : ℕ) (cells : List CellNumber) → AreAscending j cells → cells_from k cells ≡ of_order k cells ++ cells_from (k + 1) cells
order_first k j [] rise = refl
order_first k j (c ∷ cells) rise = elim (cases_lt c.order k) [
  | inl lt ↦
      rw (lt-leb k c.order lt, lt-leb (k + 1) c.order (omega arith), ne_eqb c.order k (λ e. omega (arith, e))) (order_first k c.order cells rise.1)
  | inr le ↦ elim (cases_lt k c.order) [
    | inl lt ↦
        ascending_cells_are_kept k c.order (c ∷ cells) le (omega arith, rise.1)
        ∙ (λ i. sym (no_cells_of_lower_order k c.order (c ∷ cells) lt (omega arith, rise.1)) i ++ sym (ascending_cells_are_kept (k + 1) c.order (c ∷ cells) (omega arith) (omega arith, rise.1)) i)
    | inr ge ↦
        rw (le-leb k c.order le, lt-leb (k + 1) c.order (omega arith), eq-eqb c.order k (omega arith)) (ap (λ (l : List CellNumber). c ∷ l) (order_first k c.order cells rise.1))
  ]
]

pub from_first : (first last : ℕ) (cells : List CellNumber) → HaveOrders first last cells → cells_from first cells ≡ cells
from_first first last [] all = refl
from_first first last (c ∷ cells) all = rw (le-leb first c.order (all.0).0) (ap (λ (l : List CellNumber). c ∷ l) (from_first first last cells all.1))

pub from_last : (first last k : ℕ) (cells : List CellNumber) → HaveOrders first last cells → last ≤ k → cells_from k cells ≡ []
from_last first last k [] all le = refl
from_last first last k (c ∷ cells) all le = rw (lt-leb k c.order (omega (arith, (all.0).1))) (from_last first last k cells all.1 le)

pub deeper_from : (k : ℕ) (cells : List CellNumber) → AllByRecursion (λ c. k < c.order) (cells_from (k + 1) cells)
deeper_from k [] = tt
deeper_from k (c ∷ cells) =
    elim (leb (k + 1) c.order) as (λ b. leb (k + 1) c.order ≡ b → AllByRecursion (λ c. k < c.order) (cond b (c ∷ cells_from (k + 1) cells) (cells_from (k + 1) cells))) [
      | true ↦ λ e. (omega (arith, leb-true (k + 1) c.order e), deeper_from k cells)
      | false ↦ λ e. deeper_from k cells
    ] refl

-- ---- maximal runs

-- the first of the cells does not continue the cells of order k up to the last
abbrev Stops : ℕ → ℕ → List CellNumber → Type 0
Stops k last [] = Unit {0}
Stops k last (c ∷ cells) = (eqb c.order k && eqb (last + 1) c.index) ≡ false

abbrev cell_run : ℕ → ℕ → ℕ → CellRun
cell_run k first last = record { order = k; first = first; last = last }

run_whole : (k first last n : ℕ) (cells : List CellNumber) → Stops k (last + n) cells
    → runs_from (cell_run k first last) (map (cell_number k) (range_with_len (last + 1) n) ++ cells) ≡ cell_run k first (last + n) ∷ runs_of cells
run_whole k first last zero [] stops = ap (λ n. cell_run k first n ∷ []) (omega arith)
run_whole k first last zero (c ∷ cells) stops =
    let here : last ≡ last + 0 = omega arith in
    let is : follows (cell_run k first last) c ≡ false = ap (λ n. eqb c.order k && eqb (n + 1) c.index) here ∙ stops in
    ap (λ b. cond b (runs_from (cell_run k first c.index) cells) (cell_run k first last ∷ runs_from (run_of_one c) cells)) is
    ∙ ap (λ n. cell_run k first n ∷ runs_of (c ∷ cells)) here
run_whole k first last (suc n) cells stops =
    let more : last + suc n ≡ last + 1 + n = omega arith in
    let rest = map (cell_number k) (range_with_len (last + 1 + 1) n) ++ cells in
    let is : follows (cell_run k first last) (cell_number k (last + 1)) ≡ true = (λ i. eq-eqb k k refl i && eq-eqb (last + 1) (last + 1) refl i) in
    ap (λ b. cond b (runs_from (cell_run k first (last + 1)) rest) (cell_run k first last ∷ runs_from (run_of_one (cell_number k (last + 1))) rest)) is
    ∙ run_whole k first (last + 1) n cells (subst (λ m. Stops k m cells) more stops)
    ∙ ap (λ m. cell_run k first m ∷ runs_of cells) (sym more)

stops_run : (k last b : ℕ) (ps : List (ℕ × ℕ)) (cells : List CellNumber) → last < b → IsNormal ps → BeginsAfter b ps → AllByRecursion (λ c. k < c.order) cells → Stops k last (cells_in k ps ++ cells)
stops_run k last b [] [] lt normal after deeper = tt
stops_run k last b [] (c ∷ cells) lt normal after deeper = ap (λ x. x && eqb (last + 1) c.index) (ne_eqb c.order k (λ e. omega (arith, e, deeper.0)))
stops_run k last b (q ∷ qs) cells lt normal after deeper =
    let many : q.1 - q.0 ≡ suc (q.1 - q.0 - 1) = omega (arith, normal.0) in
    let here : (eqb k k && eqb (last + 1) q.0) ≡ false = (λ i. eq-eqb k k refl i && ne_eqb (last + 1) q.0 (λ e. omega (arith, e, after, lt)) i) in
    subst (λ n. Stops k last ((map (cell_number k) (range_with_len q.0 n) ++ cells_in k qs) ++ cells)) (sym many) here

-- the runs of the cells of one order before deeper ones
pub runs_first : (k : ℕ) (ps : List (ℕ × ℕ)) (cells : List CellNumber) → IsNormal ps → AllByRecursion (λ c. k < c.order) cells → runs_of (cells_in k ps ++ cells) ≡ runs_in k ps ++ runs_of cells
runs_first k [] cells normal deeper = refl
runs_first k (p ∷ ps) cells normal deeper =
    let m = p.1 - p.0 - 1 in
    let many : p.1 - p.0 ≡ suc m = omega (arith, normal.0) in
    let last : p.0 + m ≡ p.1 - 1 = omega (arith, normal.0) in
    let others = map (cell_number k) (range_with_len (p.0 + 1) m) in
    ap (λ n. runs_of ((map (cell_number k) (range_with_len p.0 n) ++ cells_in k ps) ++ cells)) many
    ∙ ap (runs_from (cell_run k p.0 p.0)) (append_assoc others (cells_in k ps) cells)
    ∙ run_whole k p.0 p.0 m (cells_in k ps ++ cells) (stops_run k (p.0 + m) p.1 ps cells (omega (arith, normal.0)) normal.3 normal.2 deeper)
    ∙ (λ i. cell_run k p.0 (last i) ∷ runs_first k ps cells normal.3 deeper i)

-- the text of one order, followed by the text from the next order on
pub order_step : (k : ℕ) (cells : List CellNumber) (ps : List (ℕ × ℕ)) → AreAscending 0 cells → IsNormal ps → cells_in k ps ≡ of_order k cells → runs_of (cells_from k cells) ≡ runs_in k ps ++ runs_of (cells_from (k + 1) cells)
order_step k cells ps rise normal is =
    ap runs_of (order_first k 0 cells rise ∙ ap (λ l. l ++ cells_from (k + 1) cells) (sym is))
    ∙ runs_first k ps (cells_from (k + 1) cells) normal (deeper_from k cells)

-- ---- the first range of an order

pub has_cells : (k : ℕ) (cells : List CellNumber) (x : ℕ × ℕ) (ps : List (ℕ × ℕ)) → IsNormal (x ∷ ps) → cells_in k (x ∷ ps) ≡ of_order k cells → AreBelow (suc k) cells → Some k ≡ deepest_cell cells
has_cells k cells x ps normal is below =
    let many : x.1 - x.0 ≡ suc (x.1 - x.0 - 1) = omega (arith, normal.0) in
    one_of_last k cells (cell_number k x.0) (map (cell_number k) (range_with_len (x.0 + 1) (x.1 - x.0 - 1)) ++ cells_in k ps) below
    (sym is ∙ ap (λ n. map (cell_number k) (range_with_len x.0 n) ++ cells_in k ps) many)

-- the next range of an order, as an iterator returns it
abbrev pub Next : List (ℕ × ℕ) → Option (ℕ × ℕ) → List (ℕ × ℕ) → Type 0
Next s x t = YieldsFirst (λ (s : List (ℕ × ℕ)). s) s x t

pub next_some : (k : ℕ) (cells : List CellNumber) (s t : List (ℕ × ℕ)) (x : Option (ℕ × ℕ)) → Next s x t → is_some x ≡ true → IsNormal s → cells_in k s ≡ of_order k cells → AreBelow (suc k) cells → Some k ≡ deepest_cell cells
next_some k cells s t None next is normal all below = absurd cc
next_some k cells s t (Some x) next is normal all below =
    has_cells k cells x t (subst (λ (rs : List (ℕ × ℕ)). IsNormal rs) next normal) (ap (cells_in k) (sym next) ∙ all) below

pub next_none : (k : ℕ) (cells : List CellNumber) (s t : List (ℕ × ℕ)) (x : Option (ℕ × ℕ)) → Next s x t → is_some x ≡ false → cells_in k s ≡ of_order k cells → AreBelow (suc k) cells → AreBelow k cells
next_none k cells s t None next is all below = no_cells_of_last_order k cells below (sym all ∙ ap (cells_in k) next.0)
next_none k cells s t (Some x) next is all below = absurd cc
