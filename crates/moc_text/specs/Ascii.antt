-- Parsing the ASCII format of a coverage (MOC 2.0): the set and order that a text represents, or its first error.
use Rattle.std.specs.Prelude.{◌≡◌, ℕ, ◌+◌, ◌<◌, ◌≤◌, Bool, true, not, ◌||◌, ◌==◌, nat_lt, if◌then◌else◌, List, [], ◌∷◌}
use Rattle.std.specs.Prelude.{◌++◌, length, Option, Some, None, unwrap_or, ◌⊎◌, max, fold}
use Rattle.std.specs.Option.{option_map_or, option_or}
use Rattle.std.specs.Str.{all_ascii_digits}
use Rattle.std.specs.Str.Parse.{digits_value}
use Rattle.std.specs.FinSet as set
use Rattle.moc_sphere.specs.CellNumber.{cell_count}
use Rattle.moc_lists.specs.RangeList.{NumberSet}
use Rattle.moc_ranges.specs.Cells.{spans}
use Rattle.moc_text.specs.declared.ascii.number.Numeral.{Numeral}
use Rattle.moc_text.specs.declared.ascii.number.Item.{Item}
use Rattle.moc_text.specs.declared.ascii.number.WordNumbers.{WordNumbers}
use Rattle.moc_text.specs.declared.ascii.error.TextError.{TextError}
use Rattle.moc_text.specs.declared.ascii.error.TextError.TheVariants.{BadByte, NoOrder, OrderTooLarge, CellTooLarge}
use Rattle.moc_text.specs.declared.ascii.error.TextError.TheVariants.{Backwards, Unfinished}

-- space, comma, tab, CR and LF
abbrev pub is_separator : ℕ → Bool
is_separator b = b == 32 || b == 44 || b == 9 || b == 13 || b == 10

-- a maximal run of bytes without separators, and the offset of its first byte
pub record Word : Type 0 where
  pub at : ℕ
  pub bytes : List ℕ

-- a byte that is not a separator, before words: part of the word that begins directly after it, or a new word
abbrev pub prepend_to_words : ℕ → ℕ → List Word → List Word
prepend_to_words at b [] = record { at = at; bytes = b ∷ [] } ∷ []
prepend_to_words at b (w ∷ ws) =
    if w.at == at + 1 then record { at = at; bytes = b ∷ w.bytes } ∷ ws
    else record { at = at; bytes = b ∷ [] } ∷ w ∷ ws

-- the words in bytes whose first is at an offset
abbrev pub words_from : ℕ → List ℕ → List Word
words_from at [] = []
words_from at (b ∷ bytes) =
    if is_separator b then words_from (at + 1) bytes
    else prepend_to_words at b (words_from (at + 1) bytes)

-- the words of a text in order
abbrev pub words : List ℕ → List Word
words text = words_from 0 text

-- one or more digits
abbrev pub IsNumber : List ℕ → Type 0
IsNumber digits = (0 < length digits) × (all_ascii_digits digits ≡ true)

-- an optional `s`, a number, `/`
pub record Mark : Type 0 where
  pub prefixed : Bool
  pub order : List ℕ

-- `s` or nothing
abbrev pub mark_prefix : Bool → List ℕ
mark_prefix prefixed = if prefixed then 115 ∷ [] else []

-- the bytes of a mark
abbrev pub mark_text : Mark → List ℕ
mark_text m = mark_prefix m.prefixed ++ m.order ++ 47 ∷ []

-- a number; or a number, `-`, a number
pub data ItemText : Type 0 where
  OneCell : List ℕ → ItemText
  CellRange : List ℕ → List ℕ → ItemText

-- the bytes of an item
abbrev pub item_text : ItemText → List ℕ
item_text (OneCell a) = a
item_text (CellRange a b) = a ++ 45 ∷ b

-- Its parts are numbers.
abbrev pub IsItemText : ItemText → Type 0
IsItemText (OneCell a) = IsNumber a
IsItemText (CellRange a b) = IsNumber a × IsNumber b

-- a mark, an item, or a mark directly followed by an item
pub data Shape : Type 0 where
  JustMark : Mark → Shape
  JustItem : ItemText → Shape
  MarkItem : Mark → ItemText → Shape

-- the bytes of a word with this shape
abbrev pub shape_text : Shape → List ℕ
shape_text (JustMark m) = mark_text m
shape_text (JustItem c) = item_text c
shape_text (MarkItem m c) = mark_text m ++ item_text c

-- The numbers of the shape are numbers.
abbrev pub IsShape : Shape → Type 0
IsShape (JustMark m) = IsNumber m.order
IsShape (JustItem c) = IsItemText c
IsShape (MarkItem m c) = IsNumber m.order × IsItemText c

-- The bytes have one of the shapes.
abbrev pub IsValid : List ℕ → Type 0
IsValid bytes = (shape : Shape) × IsShape shape × (bytes ≡ shape_text shape)

-- a prefix of some valid word
abbrev pub IsPrefix : List ℕ → Type 0
IsPrefix p = (more : List ℕ) × IsValid (p ++ more)

-- p is the longest prefix of the bytes that is also a prefix of a valid word, and rest follows it.
pub record IsLongestPrefix (p rest bytes : List ℕ) : Type 0 where
  pub parts : bytes ≡ p ++ rest
  pub begins : IsPrefix p
  pub longest : (q more : List ℕ) → bytes ≡ q ++ more → IsPrefix q → length q ≤ length p

-- The error of a word at an offset with this longest prefix: `Unfinished` if the prefix is the whole word, and
-- `BadByte` at the next byte otherwise.
abbrev pub ShapeErrorAt : ℕ → List ℕ → List ℕ → TextError → Type 0
ShapeErrorAt at p [] f = (IsValid p → ⊥) × (f ≡ Unfinished (at + length p))
ShapeErrorAt at p (b ∷ rest) f = f ≡ BadByte (at + length p)

-- The word has no valid shape, and has this error.
abbrev pub HasShapeError : Word → TextError → Type 0
HasShapeError w f =
    (p rest : List ℕ) × IsLongestPrefix p rest w.bytes × ShapeErrorAt w.at p rest f

-- a number in a word, with the offset of its first digit
abbrev pub number_at : ℕ → List ℕ → Numeral
number_at at digits = record { at = at; value = digits_value 10 digits }

-- the number of a mark at an offset
abbrev pub mark_at : ℕ → Mark → Numeral
mark_at at m = number_at (at + length (mark_prefix m.prefixed)) m.order

-- the numbers of an item at an offset
abbrev pub item_at : ℕ → ItemText → Item
item_at at (OneCell a) = record { first = number_at at a; last = None }
item_at at (CellRange a b) =
    record { first = number_at at a; last = Some (number_at (at + length a + 1) b) }

-- the numbers of a word with this shape at an offset
abbrev pub numbers_at : ℕ → Shape → WordNumbers
numbers_at at (JustMark m) = record { mark = Some (mark_at at m); item = None }
numbers_at at (JustItem c) = record { mark = None; item = Some (item_at at c) }
numbers_at at (MarkItem m c) =
    record { mark = Some (mark_at at m); item = Some (item_at (at + length (mark_text m)) c) }

-- The word is valid and has these numbers.
abbrev pub HasNumbers : Word → WordNumbers → Type 0
HasNumbers w n =
    (shape : Shape) × IsShape shape × (w.bytes ≡ shape_text shape) × (n ≡ numbers_at w.at shape)

-- the current order after an optional mark, where `before` is the current order before it
abbrev pub current_order : Option ℕ → Option Numeral → Option ℕ
current_order before None = before
current_order before (Some n) = Some n.value

-- the last cell of an item
abbrev pub last_cell : Item → Numeral
last_cell i = unwrap_or i.last i.first

-- the error of an optional mark: an order above 29
abbrev pub mark_error : Option Numeral → Option TextError
mark_error None = None
mark_error (Some n) = if nat_lt 29 n.value then Some (OrderTooLarge n.at) else None

-- the error of an optional item in a word at offset `at`, with an optional current order
abbrev pub item_error : Option ℕ → ℕ → Option Item → Option TextError
item_error k at None = None
item_error None at (Some i) = Some (NoOrder at)
item_error (Some k) at (Some i) =
    if not (nat_lt i.first.value (cell_count k)) then Some (CellTooLarge i.first.at)
    else (if not (nat_lt (last_cell i).value (cell_count k)) then Some (CellTooLarge (last_cell i).at)
    else (if nat_lt (last_cell i).value i.first.value then Some (Backwards i.first.at) else None))

-- the first error of a valid word's numbers, if any
abbrev pub error_of : Option ℕ → ℕ → WordNumbers → Option TextError
error_of before at n =
    option_or (mark_error n.mark) (item_error (current_order before n.mark) at n.item)

-- The word has this error, with an optional current order before it.
abbrev pub IsError : Option ℕ → Word → TextError → Type 0
IsError before w f =
    HasShapeError w f ⊎ ((n : WordNumbers) × HasNumbers w n × (error_of before w.at n ≡ Some f))

-- No word has an error, and these are the numbers of the words.
abbrev pub AreNumbersOf : Option ℕ → List Word → List WordNumbers → Type 0
AreNumbersOf before [] [] = Unit {0}
AreNumbersOf before (w ∷ ws) (n ∷ ns) =
    HasNumbers w n × (error_of before w.at n ≡ None) × AreNumbersOf (current_order before n.mark) ws ns
AreNumbersOf before [] (n ∷ ns) = ⊥
AreNumbersOf before (w ∷ ws) [] = ⊥

-- the current order after words with these numbers
abbrev pub order_after : Option ℕ → List WordNumbers → Option ℕ
order_after before ns = fold (λ k n. current_order k n.mark) before ns

-- the pixels of an item's cells in the current order
abbrev pub item_pixels : Option ℕ → Option Item → NumberSet
item_pixels order item =
    option_map_or (λ i. option_map_or (λ k. spans k i.first.value (last_cell i).value) order set.empty) item set.empty

-- the pixels of all items
abbrev pub pixels_of_words : Option ℕ → List WordNumbers → NumberSet
pixels_of_words before [] = set.empty
pixels_of_words before (n ∷ ns) =
    set.union
    (item_pixels (current_order before n.mark) n.item)
    (pixels_of_words (current_order before n.mark) ns)

-- the deeper of two optional orders
abbrev pub deeper : Option ℕ → Option ℕ → Option ℕ
deeper None k = k
deeper (Some j) None = Some j
deeper (Some j) (Some k) = Some (max j k)

-- the deepest order of the marks
abbrev pub deepest_of : List WordNumbers → Option ℕ
deepest_of [] = None
deepest_of (n ∷ ns) = deeper (current_order None n.mark) (deepest_of ns)

-- The text represents this set and this MOC order.
pub record Represents (text : List ℕ) (a : NumberSet) (moc_order : Option ℕ) : Type 0 where
  pub numbers : List WordNumbers
  pub read : AreNumbersOf None (words text) numbers
  pub set_is : a ≡ pixels_of_words None numbers
  pub moc_order_is : moc_order ≡ deepest_of numbers

-- The first invalid word of the text has this error.
pub record IsFirstError (text : List ℕ) (f : TextError) : Type 0 where
  pub good : List Word
  pub numbers : List WordNumbers
  pub bad : Word
  pub others : List Word
  pub parts : words text ≡ good ++ bad ∷ others
  pub before : AreNumbersOf None good numbers
  pub fault : IsError (order_after None numbers) bad f
