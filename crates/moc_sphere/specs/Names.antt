-- The texts of orders and cells, and values that have a name.
use Rattle.std.specs.Prelude.{◌≡◌, ℕ, ◌<◌, ◌≤◌, Bool, ◌==◌, List, codes, length, Result, Ok, IfErr, IfOk}
use Rattle.std.specs.List.{position_or_len, before_first, after_first}
use Rattle.std.specs.Str.Parse.{IsNumeral, digits_value, without_leading_plus}
use Rattle.moc_sphere.specs.CellNumber.{max_order, CellNumber, IsCell}
use Rattle.moc_sphere.specs.declared.invalid_name.InvalidName.{InvalidName}

-- the text is decimal digits, which may follow a plus, and their value is n
abbrev pub Spells : List ℕ → ℕ → Type 0
Spells text n = IsNumeral 10 (without_leading_plus text) × (digits_value 10 (without_leading_plus text) ≡ n)

-- the byte is a slash
abbrev pub is_slash : ℕ → Bool
is_slash byte = byte == 47

-- the text has a slash; the part before the first slash is the order, and the part after it is the index
pub record SpellsCell (text : List ℕ) (c : CellNumber) : Type 0 where
  pub slash : position_or_len is_slash text < length text
  pub order : Spells (before_first is_slash text) c.order
  pub index : Spells (after_first is_slash text) c.index

-- the error states these names as those that are accepted
abbrev pub Expects : List ℕ → InvalidName → Type 0
Expects names e = e.expected.now ≡ names

-- the names of orders, in words
abbrev pub order_names : List ℕ
order_names = codes "a number from 0 to 29"

-- the names of cells, in words
abbrev pub cell_names : List ℕ
cell_names = codes "an order, a slash and the index of a cell of this order, such as 3/10"

-- the result of parsing is the order that the text spells, or an error if the text spells no order
pub record ParsesOrder (text : List ℕ) (r : Result ℕ InvalidName) : Type 0 where
  pub order : IfOk r (λ k. Spells text k × (k ≤ max_order))
  pub only : (k : ℕ) → k ≤ max_order → Spells text k → r ≡ Ok k
  pub error : IfErr r (Expects order_names)

-- the result of parsing is the cell that the text spells, or an error if the text spells no cell
pub record ParsesCell (text : List ℕ) (r : Result CellNumber InvalidName) : Type 0 where
  pub cell : IfOk r (λ c. SpellsCell text c × IsCell c)
  pub only : (c : CellNumber) → IsCell c → SpellsCell text c → r ≡ Ok c
  pub error : IfErr r (Expects cell_names)

-- the result of parsing is the value that has this name, or an error that states the accepted names
pub record ParsesName {A : Type 0} (name : A → List ℕ) (names word : List ℕ) (r : Result A InvalidName)
    : Type 0 where
  pub named : IfOk r (λ a. word ≡ name a)
  pub only : (a : A) → word ≡ name a → r ≡ Ok a
  pub error : IfErr r (Expects names)
