-- Quotes of the faulty part of a text.
use Rattle.std.specs.Prelude.{◌≡◌, ℕ, ◌+◌, ◌-◌, ◌/◌, ◌%◌, Bool, not, ◌&&◌, ◌==◌, nat_le, nat_lt, min, if◌then◌else◌}
use Rattle.std.specs.Prelude.{List, [], ◌∷◌, ◌++◌, length, slice_index_or, take, drop, codes, MatchOption, Option, None}
use Rattle.std.specs.Prelude.{option_map}
use Rattle.std.specs.Char.{is_ascii_digit}
use Rattle.std.specs.List.{after_last, before_first, flat_map, position_or_len}
use Rattle.std.specs.Option.{option_map_or, option_or}
use Rattle.moc_text.specs.Ascii.{is_separator}
use Rattle.moc_text.specs.JsonFormat.{HasText}
use Rattle.moc_text.specs.Lines.{lines_of}
use Rattle.moc_text.specs.Places.{json_error_at}
use Rattle.moc_text.specs.declared.json_format.error.JsonError.{JsonError}
use Rattle.moc_forms.specs.Formats.{byte_of_error, json_error, line_of_error}
use Rattle.moc_forms.specs.declared.format.FormatError.{FormatError}

-- the word around a position: from after the last separator before it up to the next one
abbrev pub word_around : List ℕ → ℕ → List ℕ
word_around bytes at = after_last is_separator (take at bytes) ++ before_first is_separator (drop at bytes)

-- the line with a number, counted from 1
abbrev pub line_numbered : List ℕ → ℕ → List ℕ
line_numbered bytes line = slice_index_or (lines_of bytes) (line - 1) []

-- the faulty part of a JSON text: the name or the item at the error
abbrev pub IsJsonPart : List ℕ → JsonError → Option (List ℕ) → Type 0
IsJsonPart bytes e found = MatchOption (json_error_at e) (found ≡ None) (λ at. HasText bytes at.0 at.1 found)

-- the faulty part of a text that is not JSON: the word at the error, or the line
abbrev pub word_or_line : List ℕ → FormatError → Option (List ℕ)
word_or_line bytes e =
    option_or (option_map (word_around bytes) (byte_of_error e)) (option_map (line_numbered bytes) (line_of_error e))

-- the faulty part of a text in a format
abbrev pub IsQuotedText : List ℕ → FormatError → Option (List ℕ) → Type 0
IsQuotedText bytes e found =
    MatchOption (json_error e) (found ≡ word_or_line bytes e) (λ json. IsJsonPart bytes json found)

-- not a digit
abbrev pub is_not_digit : ℕ → Bool
is_not_digit b = not (is_ascii_digit b)

-- The position of an error in the faulty part. In a word, it is that of the byte of the error. In a line, it is that of
-- the first byte that is not a digit. In a name or an item of JSON, it is the start.
abbrev pub quoted_at : List ℕ → FormatError → ℕ
quoted_at bytes e =
    option_map_or (λ json. 0) (json_error e)
    (option_map_or (λ at. length (after_last is_separator (take at bytes))) (byte_of_error e)
    (option_map_or (λ line. position_or_len is_not_digit (line_numbered bytes line)) (line_of_error e) 0))

-- the hexadecimal digit of a number below 16
abbrev pub hex_digit : ℕ → ℕ
hex_digit n = if nat_lt n 10 then 48 + n else 87 + n

-- a byte that is quoted unchanged: printable ASCII except backslash and backquote
abbrev pub is_plain : ℕ → Bool
is_plain b = nat_le 32 b && nat_lt b 127 && not (b == 92) && not (b == 96)

-- a byte in quoted form; `\x` and two digits if it is not plain
abbrev pub byte_quoted : ℕ → List ℕ
byte_quoted b = if is_plain b then b ∷ [] else 92 ∷ 120 ∷ hex_digit (b / 16) ∷ hex_digit (b % 16) ∷ []

-- bytes in quoted form
unfoldable pub bytes_quoted : List ℕ → List ℕ
bytes_quoted bytes = flat_map byte_quoted bytes

-- the maximal number of bytes that a quote shows
abbrev pub max_quote_bytes : ℕ
max_quote_bytes = 40

-- the number of bytes of a part that a quote leaves out at its start: the position is in the middle of what is shown,
-- or nearer to the start or the end of the part
abbrev pub quote_start : List ℕ → ℕ → ℕ
quote_start bytes at = min (at - max_quote_bytes / 2) (length bytes - max_quote_bytes)

-- two points in place of bytes that are left out
abbrev pub omission : ℕ → List ℕ
omission count = if count == 0 then [] else codes ".."

-- a quote of a part around a position: at most 40 bytes, in quoted form between backquotes
abbrev pub quote_text : List ℕ → ℕ → List ℕ
quote_text bytes at =
    let following = drop (quote_start bytes at) bytes in
    omission (quote_start bytes at)
    ++ (96 ∷ bytes_quoted (take max_quote_bytes following) ++ 96 ∷ omission (length following - max_quote_bytes))

-- the quote of the faulty part of a text
abbrev pub IsQuote : List ℕ → FormatError → Option (List ℕ) → Type 0
IsQuote bytes e quote =
    (found : Option (List ℕ)) × IsQuotedText bytes e found
    × (quote ≡ option_map (λ part. quote_text part (quoted_at bytes e)) found)
