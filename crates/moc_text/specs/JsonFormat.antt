-- Parsing the JSON format of a coverage (MOC 2.0): the names of an object are orders, and their arrays have the cells.
use Rattle.std.specs.Prelude.{◌≡◌, ℕ, zero, suc, ◌+◌, ◌&&◌, ◌==◌, not, nat_lt, if◌then◌else◌, List, Option, Some, None}
use Rattle.std.specs.Prelude.{false, option_and_then, option_map, length, IsUtf8, ◌⊎◌}
use Rattle.std.specs.Option.{option_map_or, option_or}
use Rattle.std.specs.Str.{all_ascii_digits}
use Rattle.std.specs.Str.Parse.{digits_value}
use Rattle.std.specs.FinSet as set
use Rattle.serde_json.specs.Data.{Data, Items, no_items, item, Members, no_members, member}
use Rattle.serde_json.specs.Find.{as_number, as_u64, as_array, as_object, at}
use Rattle.serde_json.specs.Read.{read}
use Rattle.serde_json.specs.Written.{compact_text, has_float}
use Rattle.moc_sphere.specs.CellNumber.{cell_count}
use Rattle.moc_lists.specs.RangeList.{NumberSet}
use Rattle.moc_ranges.specs.Cells.{span}
use Rattle.moc_text.specs.Ascii.{deeper}
use Rattle.moc_text.specs.declared.json_format.error.JsonError.{JsonError}
use Rattle.moc_text.specs.declared.json_format.error.JsonError.TheVariants.{NotJson, NotObject, BadOrder, NotArray}
use Rattle.moc_text.specs.declared.json_format.error.JsonError.TheVariants.{NotWhole, CellTooLarge}

-- the order that a name denotes, if any: digits with a value of at most 29
abbrev pub order_of_name : List ℕ → Option ℕ
order_of_name name =
    if not (length name == 0) && all_ascii_digits name
    then (if nat_lt 29 (digits_value 10 name) then None else Some (digits_value 10 name))
    else None

-- the unsigned 64-bit integer of a value, if it is one
abbrev pub whole_number : Data → Option ℕ
whole_number d = option_and_then as_u64 (as_number d)

-- the pixels of the cell with an optional index
abbrev pub cell_pixels : ℕ → Option ℕ → NumberSet
cell_pixels k i = option_map_or (span k) i set.empty

-- the pixels of the cells whose indices are the items
abbrev pub items_pixels : ℕ → Items → NumberSet
items_pixels k no_items = set.empty
items_pixels k (item d ds) = set.union (cell_pixels k (whole_number d)) (items_pixels k ds)

-- the pixels of the cells of a name, if it denotes an order and has an array
abbrev pub array_pixels : Option ℕ → Option Items → NumberSet
array_pixels order ds = option_map_or (λ k. option_map_or (items_pixels k) ds set.empty) order set.empty

-- the pixels of the cells of all names
abbrev pub members_pixels : Members → NumberSet
members_pixels no_members = set.empty
members_pixels (member name d ms) =
    set.union (array_pixels (order_of_name name) (as_array d)) (members_pixels ms)

-- the deepest order that is a name
abbrev pub deepest_name : Members → Option ℕ
deepest_name no_members = None
deepest_name (member name d ms) = deeper (order_of_name name) (deepest_name ms)

-- the name with this number and its value, if it exists
abbrev pub member_at : ℕ → Members → Option (List ℕ × Data)
member_at number no_members = None
member_at zero (member name d ms) = Some (name, d)
member_at (suc number) (member name d ms) = member_at number ms

-- the same for a value, if it is an object
abbrev pub object_member : ℕ → Data → Option (List ℕ × Data)
object_member number d = option_and_then (member_at number) (as_object d)

-- the error of an item with an optional integer, for order k: it is not an integer, or not a cell
abbrev pub element_error : ℕ → ℕ → ℕ → Option ℕ → Option JsonError
element_error k number place None = Some (NotWhole number place)
element_error k number place (Some i) =
    if nat_lt i (cell_count k) then None else Some (CellTooLarge number place)

-- the error of the first invalid item, where items are counted from `place`
abbrev pub elements_error : ℕ → ℕ → ℕ → Items → Option JsonError
elements_error k number place no_items = None
elements_error k number place (item d ds) =
    option_or (element_error k number place (whole_number d)) (elements_error k number (place + 1) ds)

-- the error of a name with an optional order and an optional array
abbrev pub name_error : ℕ → Option ℕ → Option Items → Option JsonError
name_error number None ds = Some (BadOrder number)
name_error number (Some k) None = Some (NotArray number)
name_error number (Some k) (Some ds) = elements_error k number 0 ds

-- the error of the first invalid name, where names are counted from `number`
abbrev pub members_error : ℕ → Members → Option JsonError
members_error number no_members = None
members_error number (member name d ms) =
    option_or (name_error number (order_of_name name) (as_array d)) (members_error (number + 1) ms)

-- The bytes are the text of this value.
pub record IsJson (bytes : List ℕ) (d : Data) : Type 0 where
  pub utf8 : IsUtf8 bytes
  pub value : read bytes ≡ Some d

-- The bytes are not the text of any value.
abbrev pub IsNotJson : List ℕ → Type 0
IsNotJson bytes = IsUtf8 bytes → read bytes ≡ None

-- The name with this number, counted from 0 in byte order, denotes this order, or does not exist or denote one.
abbrev pub NameIsOrder : List ℕ → ℕ → Option ℕ → Type 0
NameIsOrder bytes number k =
    (d : Data) × IsJson bytes d
    × (k ≡ option_and_then (λ (m : List ℕ × Data). order_of_name m.0) (object_member number d))

-- The text of an optional value. The text of numbers with a fraction or an exponent is unspecified.
abbrev pub IsTextOf : Option Data → Option (List ℕ) → Type 0
IsTextOf None text = text ≡ None
IsTextOf (Some d) text =
    (bytes : List ℕ) × (text ≡ Some bytes) × (has_float d ≡ false → bytes ≡ compact_text d)

-- The text of a name, or of the item at this index in its array, for an optional name with its value.
abbrev pub IsTextAt : Option ℕ → Option (List ℕ × Data) → Option (List ℕ) → Type 0
IsTextAt None found text = text ≡ option_map (λ (m : List ℕ × Data). m.0) found
IsTextAt (Some place) found text = IsTextOf (option_and_then (λ (m : List ℕ × Data). at place m.1) found) text

-- The name with this number in a text, or the item at this index of its array, has this text, if it exists. Names are
-- counted from 0 in byte order, and items from 0.
abbrev pub HasText : List ℕ → ℕ → Option ℕ → Option (List ℕ) → Type 0
HasText bytes number place text = (d : Data) × IsJson bytes d × IsTextAt place (object_member number d) text

-- The text is a valid object that represents this set and this MOC order.
pub record RepresentsJson (bytes : List ℕ) (a : NumberSet) (moc_order : Option ℕ) : Type 0 where
  pub value : Data
  pub json : IsJson bytes value
  pub members : Members
  pub object : as_object value ≡ Some members
  pub without_error : members_error 0 members ≡ None
  pub set_is : a ≡ members_pixels members
  pub moc_order_is : moc_order ≡ deepest_name members

-- The text has this error: it is not JSON, not an object, or an object with an invalid name.
abbrev pub IsJsonError : List ℕ → JsonError → Type 0
IsJsonError bytes e =
    ((e ≡ NotJson) × IsNotJson bytes)
    ⊎ ((d : Data) × IsJson bytes d × (option_map_or (members_error 0) (as_object d) (Some NotObject) ≡ Some e))
