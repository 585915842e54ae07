-- Writing the JSON format of a coverage (MOC 2.0): an object of orders with arrays of cells.
use Rattle.std.specs.Prelude.{ℕ, zero, suc, Bool, true, false, ◌==◌, if◌then◌else◌, List, [], ◌∷◌, map, Option}
use Rattle.std.specs.Prelude.{decimal}
use Rattle.std.specs.List.{filter}
use Rattle.std.specs.Option.{option_map_or}
use Rattle.serde_json.specs.Data.{Data, number, unsigned, array, object, Members, no_members, put}
use Rattle.serde_json.specs.View.{items_of}
use Rattle.serde_json.specs.Written.{compact_text}
use Rattle.moc_sphere.specs.CellNumber.{CellNumber}
use Rattle.moc_lists.specs.RangeList.{NumberSet}
use Rattle.moc_ranges.specs.Cells.{cells_of}
use Rattle.moc_text.specs.AsciiText.{deepest_cell, stated_if_deeper}

-- the index of a cell as a value
abbrev pub datum : CellNumber → Data
datum c = number (unsigned c.index)

-- the indices of the cells of an order, in order
abbrev pub data_at : ℕ → List CellNumber → List Data
data_at k cells = map datum (filter (λ c. c.order == k) cells)

-- an order is a name if it has cells or is the order that is written without cells
abbrev pub is_name : ℕ → Option ℕ → List Data → Bool
is_name k empty_order [] = option_map_or (λ j. k == j) empty_order false
is_name k empty_order (d ∷ ds) = true

-- the members of the orders below a number that are names; `put` sorts them in byte order
abbrev pub members_below : List CellNumber → Option ℕ → ℕ → Members
members_below cells empty_order zero = no_members
members_below cells empty_order (suc k) =
    if is_name k empty_order (data_at k cells)
    then put (decimal k) (array (items_of (data_at k cells))) (members_below cells empty_order k)
    else members_below cells empty_order k

-- the object of a set and an optional stated order, which is a name without cells if it is deeper than all cells
unfoldable pub json_value : NumberSet → Option ℕ → Data
json_value a stated = object (members_below (cells_of a) (stated_if_deeper (deepest_cell (cells_of a)) stated) 30)

-- the text of the object without spaces
unfoldable pub json_text : NumberSet → Option ℕ → List ℕ
json_text a stated = compact_text (json_value a stated)
