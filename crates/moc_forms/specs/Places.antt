-- Positions of errors in texts.
use Rattle.std.specs.Prelude.{◌≡◌, ℕ, ◌+◌, List, [], ◌∷◌, ◌++◌, ◌⊎◌, length, take, Option, None, Some}
use Rattle.std.specs.Prelude.{option_map, decimal, codes, count_by, MatchOption}
use Rattle.std.specs.List.{after_last}
use Rattle.std.specs.Option.{option_map_or, option_or}
use Rattle.moc_text.specs.JsonFormat.{NameIsOrder}
use Rattle.moc_text.specs.Lines.{is_line_feed}
use Rattle.moc_text.specs.declared.json_format.error.JsonError.{JsonError}
use Rattle.moc_text.specs.declared.json_format.error.JsonError.TheVariants as json
use Rattle.moc_forms.specs.Formats.{byte_of_error, json_error, line_of_error}
use Rattle.moc_forms.specs.declared.format.FormatError.{FormatError}
use Rattle.moc_forms.specs.declared.place.Place.{Place}
use Rattle.moc_forms.specs.declared.place.Place.TheVariants.{Byte, Line, JsonSyntax, Name, Order, Number}

-- the position of a byte: its line, counted from 1, is one more than the number of line feeds before it; its column is
-- the number of bytes after the last of these line feeds
abbrev pub byte_place : List ℕ → ℕ → Place
byte_place bytes at =
    let before = take at bytes in
    Byte at (1 + count_by is_line_feed before) (length (after_last is_line_feed before))

-- the position for the order that a name of a JSON text denotes, given by the index of the name
abbrev pub IsOfOrder : List ℕ → ℕ → (ℕ → Place) → Option Place → Type 0
IsOfOrder bytes name place found = (k : Option ℕ) × NameIsOrder bytes name k × (found ≡ option_map place k)

-- the position of an error of a JSON text; for invalid JSON the one that `serde_json` reports, if it reports one
abbrev pub IsJsonPlace : List ℕ → JsonError → Option Place → Type 0
IsJsonPlace bytes json.NotJson found = (found ≡ None) ⊎ ((line column : ℕ) × (found ≡ Some (JsonSyntax line column)))
IsJsonPlace bytes json.NotObject found = found ≡ None
IsJsonPlace bytes (json.BadOrder name) found = found ≡ Some (Name name)
IsJsonPlace bytes (json.NotArray name) found = IsOfOrder bytes name (λ k. Order k) found
IsJsonPlace bytes (json.NotWhole name number) found = IsOfOrder bytes name (λ k. Number k number) found
IsJsonPlace bytes (json.CellTooLarge name number) found = IsOfOrder bytes name (λ k. Number k number) found
IsJsonPlace bytes json.Memory found = found ≡ None

-- the position of an error of a text that is not JSON: its byte, or its line
abbrev pub byte_or_line_place : List ℕ → FormatError → Option Place
byte_or_line_place bytes e =
    option_or (option_map (byte_place bytes) (byte_of_error e)) (option_map (λ line. Line line) (line_of_error e))

-- the position of an error of a text in a format
abbrev pub IsPlace : List ℕ → FormatError → Option Place → Type 0
IsPlace bytes e found =
    MatchOption (json_error e) (found ≡ byte_or_line_place bytes e) (λ json. IsJsonPlace bytes json found)

-- a position in words
abbrev pub place_text : Place → List ℕ
place_text (Byte at line column) =
    (codes "byte " ++ decimal at) ++ (codes ", line " ++ decimal line) ++ (codes ", byte " ++ decimal column)
    ++ codes " of it"
place_text (Line line) = codes "line " ++ decimal line
place_text (JsonSyntax line column) = (codes "line " ++ decimal line) ++ (codes ", column " ++ decimal column)
place_text (Name name) = codes "name " ++ decimal name
place_text (Order order) = codes "order " ++ decimal order
place_text (Number order number) = (codes "order " ++ decimal order) ++ (codes ", number " ++ decimal number)

-- a quote after a position, if there is one
abbrev pub quote_after : Option (List ℕ) → List ℕ
quote_after quote = option_map_or (λ q. codes ": " ++ q) quote []

-- the line for the position of an error: the number of the text if texts are counted, the position if there is one, and
-- the quote if there is one; nothing without a number and a position
abbrev pub position_line : Option ℕ → Option Place → Option (List ℕ) → List ℕ
position_line None None quote = []
position_line None (Some place) quote = place_text place ++ quote_after quote ++ 10 ∷ []
position_line (Some number) None quote = (codes "text " ++ decimal number) ++ 10 ∷ []
position_line (Some number) (Some place) quote =
    (codes "text " ++ decimal number) ++ codes ", " ++ (place_text place ++ quote_after quote ++ 10 ∷ [])
