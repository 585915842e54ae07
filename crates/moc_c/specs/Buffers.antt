-- Arrays of the caller that are read, and buffers of the caller that are filled.
use Rattle.std.specs.Prelude.{◌≡◌, ◌⊎◌, ◌<◌, ◌≤◌, ◌+◌, ◌-◌, ◌^◌, ℕ, Bool, List, [], ◌∷◌, length, map, take, drop}
use Rattle.std.specs.Prelude.{nat_le, nat_lt, ◌==◌, EachIndex, slice_index, slice_index_or, if◌then◌else◌, option_map}
use Rattle.std.specs.Prelude.{Option, None, Some, Result, Ok, Err}
use Rattle.std.specs.Option.{option_map_or, option_or}
use Rattle.std.specs.FinSet as set
use Rattle.std.specs.List.{list_all, AllByRecursion}
use Rattle.moc_sphere.specs.CellNumber.{CellNumber, cell_count, cell_number, is_uniq, IsCell, uniq_of}
use Rattle.moc_sphere.specs.Rings.{ring_number}
use Rattle.moc_sphere.specs.Touching.{healpy_index, IsNeighbour, touching_cells}
use Rattle.moc_sphere.specs.declared.direction.Direction.{Direction}
use Rattle.moc_ranges.specs.CellCounts.{counts_by_order}
use Rattle.moc_ranges.specs.Cells.{cells_of, pixels_of}
use Rattle.moc_ranges.specs.Errors.{first_error}
use Rattle.moc_lists.specs.RangeList.{NumberSet, AreRangesOf, set_of}
use Rattle.moc_c.specs.Answers.{Makes}
use Rattle.moc_c.specs.Contents.{Contents}
use Rattle.moc_c.specs.CallResults.{IsSuccess, success, memory, result_of, number_result}
use Rattle.moc_c.specs.declared.error.CallError.{CallError}
use Rattle.moc_c.specs.declared.error.CallError.TheVariants as error
use Rattle.moc_c.specs.declared.call_result.CallResult.{CallResult}
use Rattle.moc_c.specs.declared.range.Range.{Range}
use Rattle.moc_c.specs.declared.conversion.Conversion.{Conversion}
use Rattle.moc_c.specs.declared.conversion.Conversion.TheVariants.{NestToRing, RingToNest, NestToUniq}

-- ---- errors of arrays

-- the index of the first number that fails a test; `at` is the index of the first number
abbrev pub first_error_at : (ℕ → Bool) → ℕ → List ℕ → Option ℕ
first_error_at test at [] = None
first_error_at test at (x ∷ xs) = if test x then first_error_at test (at + 1) xs else Some at

-- the error if not every length is equal to this one
abbrev pub lengths_error : ℕ → List ℕ → Option CallError
lengths_error n lengths = if list_all (λ m. n == m) lengths then None else Some error.LengthsDiffer

-- the error of the first number that is not a cell of the order
abbrev pub cells_error : ℕ → List ℕ → Option CallError
cells_error order xs =
    option_map (λ at. error.NoSuchCell at) (first_error_at (λ x. nat_lt x (cell_count order)) 0 xs)

-- the error of the first number that is not a NUNIQ number
abbrev pub uniqs_error : List ℕ → Option CallError
uniqs_error xs = option_map (λ at. error.NotUniq at) (first_error_at is_uniq 0 xs)

-- the error of an order, of cell indices, or of the lengths of the other arrays
abbrev pub numbers_error : ℕ → List ℕ → List ℕ → Option CallError
numbers_error order xs lengths =
    if nat_le order 29 then option_or (lengths_error (length xs) lengths) (cells_error order xs)
    else Some (error.NoSuchOrder order)

-- the result of an error, or success
abbrev pub success_unless : Option CallError → CallResult
success_unless e = option_map_or result_of e success

-- ---- converted numbers

-- two lists have the same length, and the relation holds for each pair of elements at the same position
abbrev pub AreRelated : (ℕ → ℕ → Type 0) → List ℕ → List ℕ → Type 0
AreRelated R xs ys = EachIndex xs (λ k. R (slice_index xs k) (slice_index ys k))

-- an index of a cell of the order, and another number of the same cell
abbrev pub IsConverted : Conversion → ℕ → ℕ → ℕ → Type 0
IsConverted NestToRing order x y = y ≡ ring_number order x
IsConverted RingToNest order x y = (y < cell_count order) × (ring_number order y ≡ x)
IsConverted NestToUniq order x y = y ≡ uniq_of (cell_number order x)

-- NUNIQ numbers, and the orders and nested indices of the same cells
abbrev pub AreCellsOf : List ℕ → List ℕ → List ℕ → Type 0
AreCellsOf uniqs orders xs =
    EachIndex uniqs (λ k. IsCell (cell_number (slice_index orders k) (slice_index xs k))
    × (uniq_of (cell_number (slice_index orders k) (slice_index xs k)) ≡ slice_index uniqs k))

-- a row of eight starts with the list and is filled with the largest number
pub record IsPadded (xs row : List ℕ) : Type 0 where
  pub front : (k : ℕ) → k < length xs → slice_index row k ≡ slice_index xs k
  pub behind : (k : ℕ) → length xs ≤ k → k < 8 → slice_index row k ≡ 2 ^ 64 - 1

-- each row lists the cells that touch the cell at its position
abbrev pub AreTouching : ℕ → List ℕ → List (List ℕ) → Type 0
AreTouching order cells nearby_rows =
    EachIndex cells (λ k. IsPadded (touching_cells order (slice_index cells k)) (slice_index_or nearby_rows k []))

-- the number is the neighbour of cell i of order k in the direction, or the largest number if there is none
pub record IsNeighbourNumber (k i : ℕ) (d : Direction) (x : ℕ) : Type 0 where
  pub found : (x ≡ 2 ^ 64 - 1) ⊎ IsNeighbour k d i x
  pub only : (j : ℕ) → IsNeighbour k d i j → x ≡ j

-- the row lists the neighbours of cell i of order k in healpy's order of directions
abbrev pub IsNeighbourRow : ℕ → ℕ → List ℕ → Type 0
IsNeighbourRow k i row = (d : Direction) → IsNeighbourNumber k i d (slice_index row (healpy_index d))

-- each row lists the neighbours of the cell at its position
abbrev pub AreNeighbours : ℕ → List ℕ → List (List ℕ) → Type 0
AreNeighbours order cells nearby_rows =
    EachIndex cells (λ k. IsNeighbourRow order (slice_index cells k) (slice_index_or nearby_rows k []))

-- ---- sets from arrays

-- ranges as pairs
abbrev pub pairs_from : List Range → List (ℕ × ℕ)
pairs_from rs = map (λ r. (r.from, r.to)) rs

-- the union of the ranges, or the first error
abbrev pub set_of_ranges_or_error : List Range → Result NumberSet CallError
set_of_ranges_or_error rs =
    option_map_or (λ e. Err (error.Ranges e)) (first_error (pairs_from rs)) (Ok (set_of (pairs_from rs)))

-- the set of the cells of one order with these indices, or the first error
abbrev pub set_of_cells_or_error : ℕ → List ℕ → Result NumberSet CallError
set_of_cells_or_error order xs =
    option_map_or (λ e. Err e) (numbers_error order xs []) (Ok (pixels_of (map (cell_number order) xs)))

-- the set of the cells with these NUNIQ numbers, or the first error
abbrev pub AreUniqsOf : List ℕ → Result NumberSet CallError → Type 0
AreUniqsOf uniqs (Ok a) =
    (uniqs_error uniqs ≡ None)
    × ((cells : List CellNumber) × AllByRecursion IsCell cells × (map uniq_of cells ≡ uniqs) × (a ≡ pixels_of cells))
AreUniqsOf uniqs (Err e) = uniqs_error uniqs ≡ Some e

-- the set of the NUNIQ numbers is made, or an allocation fails
abbrev pub MakesSetOfUniqs : Contents → Contents → List ℕ → CallResult → Type 0
MakesSetOfUniqs old new uniqs o =
    ((outcome : Result NumberSet CallError) × AreUniqsOf uniqs outcome × Makes old new outcome o)
    ⊎ ((o ≡ memory) × (new ≡ old))

-- ---- filled buffers

-- The items are at the front of the buffer, the rest of the buffer is unchanged, and the result has the number of
-- items; or the buffer is too short and unchanged, and the result is `BufferTooShort` with the number of items.
abbrev pub Fills : {X : Type 0} → List X → List X → List X → CallResult → Type 0
Fills items old new o =
    ((take (length items) new ≡ items) × (drop (length items) new ≡ drop (length items) old)
    × (o ≡ number_result (length items)))
    ⊎ ((length old < length items) × (new ≡ old) × (o ≡ result_of (error.BufferTooShort (length items))))

-- pairs as ranges
abbrev pub ranges_from : List (ℕ × ℕ) → List Range
ranges_from pairs = map (λ p. record { from = p.0; to = p.1 }) pairs

-- the ranges of a set fill a buffer, or the result is the error
abbrev pub FillsRanges : Result NumberSet CallError → List Range → List Range → CallResult → Type 0
FillsRanges (Ok a) old new o =
    (ranges : List (ℕ × ℕ)) × AreRangesOf a ranges × Fills (ranges_from ranges) old new o
FillsRanges (Err e) old new o = (new ≡ old) × (o ≡ result_of e)

-- the NUNIQ numbers of a set's cells fill a buffer, or an allocation fails, or the result is the error
abbrev pub FillsCells : Result NumberSet CallError → List ℕ → List ℕ → CallResult → Type 0
FillsCells (Ok a) old new o = Fills (map uniq_of (cells_of a)) old new o ⊎ ((new ≡ old) × (o ≡ memory))
FillsCells (Err e) old new o = (new ≡ old) × (o ≡ result_of e)

-- the numbers of a set's cells of each order fill a buffer, or the result is the error
abbrev pub FillsCellCounts : Result NumberSet CallError → List ℕ → List ℕ → CallResult → Type 0
FillsCellCounts (Ok a) old new o = Fills (counts_by_order (cells_of a)) old new o
FillsCellCounts (Err e) old new o = (new ≡ old) × (o ≡ result_of e)

-- With code 0 the number for a pixel is 1 if the set contains it, else 0. With any other code all numbers are
-- unchanged.
abbrev pub AreContainedFlags : Result NumberSet CallError → List ℕ → List ℕ → List ℕ → CallResult → Type 0
AreContainedFlags (Ok a) pixels old new o =
    (o ≡ success_unless (lengths_error (length pixels) (length old ∷ [])))
    × (IsSuccess o → AreRelated (λ x y. y ≡ (if set.contains a x then 1 else 0)) pixels new)
    × ((IsSuccess o → ⊥) → new ≡ old)
AreContainedFlags (Err e) pixels old new o = (new ≡ old) × (o ≡ result_of e)
