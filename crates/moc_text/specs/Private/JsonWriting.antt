-- The parts of a text in the JSON format, in the order in which they are written.
use Rattle.std.specs.Prelude.{ℕ, true, if◌then◌else◌, List, [], ◌∷◌, map, Option, decimal}
use Rattle.serde_json.specs.Data.{Data, array, Members, no_members, member}
use Rattle.serde_json.specs.View.{items_of}
use Rattle.serde_json.specs.Written.{items_text}
use Rattle.moc_sphere.specs.CellNumber.{CellNumber}
use Rattle.moc_text.specs.JsonText.{datum, data_at, is_name}

-- the orders, sorted by their names in byte order
abbrev pub orders_by_name : List ℕ
orders_by_name =
    0 ∷ 1 ∷ 10 ∷ 11 ∷ 12 ∷ 13 ∷ 14 ∷ 15 ∷ 16 ∷ 17 ∷ 18 ∷ 19 ∷ 2 ∷ 20 ∷ 21 ∷ 22 ∷ 23 ∷ 24 ∷ 25 ∷ 26 ∷ 27 ∷ 28 ∷ 29 ∷ 3
    ∷ 4 ∷ 5 ∷ 6 ∷ 7 ∷ 8 ∷ 9 ∷ []

-- an order with its array in front of members, if it is a name
abbrev pub prepend_member : ℕ → Option ℕ → List Data → Members → Members
prepend_member k empty_order ds members =
    if is_name k empty_order ds then member (decimal k) (array (items_of ds)) members else members

-- the members of the orders in a list that are names, in the order of the list
abbrev pub members_in_order : List CellNumber → Option ℕ → List ℕ → Members
members_in_order cells empty_order [] = no_members
members_in_order cells empty_order (k ∷ ks) =
    prepend_member k empty_order (data_at k cells) (members_in_order cells empty_order ks)

-- the indices of cells after other items, and the end of their array
abbrev pub array_rest : List CellNumber → List ℕ
array_rest cells = items_text true (items_of (map datum cells))
