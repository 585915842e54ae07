-- Writing the ASCII format of a coverage (MOC 2.0): its cells in ascending order of order and index.
use Rattle.std.specs.Prelude.{ℕ, ◌+◌, Bool, ◌&&◌, ◌==◌, nat_lt, ◌<◌, if◌then◌else◌, List, [], ◌∷◌, ◌++◌, Option, Some}
use Rattle.std.specs.Prelude.{None, option_map, option_to_list, decimal}
use Rattle.std.specs.List.{Any, join_with_byte}
use Rattle.std.specs.Option.{IsSomeAnd}
use Rattle.moc_sphere.specs.CellNumber.{CellNumber}
use Rattle.moc_lists.specs.RangeList.{NumberSet}
use Rattle.moc_ranges.specs.Cells.{cells_of}
use Rattle.moc_text.specs.Ascii.{deeper}
use Rattle.moc_text.specs.declared.ascii.writing.Run.{Run}

-- a run of one cell
abbrev pub run_of_one : CellNumber → Run
run_of_one c = record { order = c.order; first = c.index; last = c.index }

-- whether the cell is the successor of the run
abbrev pub follows : Run → CellNumber → Bool
follows r c = (c.order == r.order) && (r.last + 1 == c.index)

-- the maximal runs of consecutive cells of one order, where r is the beginning of the first run
abbrev pub runs_from : Run → List CellNumber → List Run
runs_from r [] = r ∷ []
runs_from r (c ∷ cs) =
    if follows r c then runs_from (record r { last = c.index }) cs else r ∷ runs_from (run_of_one c) cs

-- the maximal runs of consecutive cells of one order
abbrev pub runs_of : List CellNumber → List Run
runs_of [] = []
runs_of (c ∷ cs) = runs_from (run_of_one c) cs

-- a single cell `a`, or a run of several cells `a-b`
abbrev pub run_text : Run → List ℕ
run_text r =
    if r.first == r.last then decimal r.first else decimal r.first ++ 45 ∷ decimal r.last

-- `k/`
abbrev pub order_text : ℕ → List ℕ
order_text k = decimal k ++ 47 ∷ []

-- `k/` before the first run of an order, and nothing before its other runs; `before` is the order written last
abbrev pub mark_text_of : Option ℕ → ℕ → List ℕ
mark_text_of None k = order_text k
mark_text_of (Some j) k = if j == k then [] else order_text k

-- the stated order if it is deeper than the order written last, or if no order was written
abbrev pub stated_if_deeper : Option ℕ → Option ℕ → Option ℕ
stated_if_deeper before None = None
stated_if_deeper None (Some k) = Some k
stated_if_deeper (Some j) (Some k) = if nat_lt j k then Some k else None

-- the words of runs and of the stated order, if it is written; `before` is the order written last
abbrev pub words_of : Option ℕ → Option ℕ → List Run → List (List ℕ)
words_of stated before [] = option_to_list (option_map order_text (stated_if_deeper before stated))
words_of stated before (r ∷ rs) =
    (mark_text_of before r.order ++ run_text r) ∷ words_of stated (Some r.order) rs

-- the text of a set and an optional stated order
unfoldable pub ascii_text : NumberSet → Option ℕ → List ℕ
ascii_text a stated = join_with_byte 32 (words_of stated None (runs_of (cells_of a)))

-- Some cell of the set is deeper than the stated order.
abbrev pub IsTooCoarse : NumberSet → Option ℕ → Type 0
IsTooCoarse a stated = IsSomeAnd stated (λ k. Any (λ c. k < c.order) (cells_of a))

-- the order of the deepest cell
abbrev pub deepest_cell : List CellNumber → Option ℕ
deepest_cell [] = None
deepest_cell (c ∷ cs) = deeper (Some c.order) (deepest_cell cs)

-- the stated order, or otherwise the order of the deepest cell
abbrev pub deepest_written : NumberSet → Option ℕ → Option ℕ
deepest_written a None = deepest_cell (cells_of a)
deepest_written a (Some k) = Some k
