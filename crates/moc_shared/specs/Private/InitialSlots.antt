-- The initial slots of a map.
use Rattle.std.specs.Prelude.{◌≡◌, ℕ, List, length, Option}
use mathlib.Core.Option.{some}
use lib.ListN.{get_elem?}
use Rattle.moc_lists.specs.RangeList.{NumberSet}
use Rattle.moc_shared.specs.Seats.{table_index, Pointer}
use Rattle.moc_shared.specs.Private.Seats.{content, part}

-- there are n slots, and those of parts have the parts of the set
abbrev pub ArePartsOf : NumberSet → List (Option Pointer) → ℕ → Type 0
ArePartsOf a slots n =
    (length slots ≡ n)
    × ((b : ℕ) (x : Option Pointer) → get_elem? slots (table_index b) ≡ some x → content x ≡ part b a)
