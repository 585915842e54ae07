-- The quote of an error.
use Rattle.std.proofs.Common.{◌≡◌, ℕ, List, Option, None, Some, length, refl, subst, take}
use Rattle.std.specs.Prelude.{MatchOption, option_map}
use Rattle.std.specs.List.{after_last, position_or_len}
use Rattle.moc_text.specs.Ascii.{is_separator}
use Rattle.moc_text.specs.declared.json_format.error.JsonError.{JsonError}
use Rattle.moc_text.specs.JsonFormat.{HasText}
use Rattle.moc_text.specs.Places.{json_error_at}
use Rattle.moc_forms.specs.Formats.{byte_of_error, json_error, line_of_error}
use Rattle.moc_forms.specs.Quotes.{IsJsonPart, IsQuote, is_not_digit, line_numbered, quote_text, word_around}
use Rattle.moc_forms.specs.declared.format.FormatError.{FormatError}

-- the offset of a position in its word
abbrev offset_in_word : List ℕ → ℕ → ℕ
offset_in_word bytes at = length (after_last is_separator (take at bytes))

-- the number of digits at the start of a line
abbrev pub digits_before : List ℕ → ℕ
digits_before line = position_or_len is_not_digit line

pub at_byte : (bytes : List ℕ) (e : FormatError) (at : ℕ) (quote : Option (List ℕ)) → json_error e ≡ None → byte_of_error e ≡ Some at
    → quote ≡ Some (quote_text (word_around bytes at) (offset_in_word bytes at)) → IsQuote bytes e quote
at_byte bytes e at quote plain place same = rw (plain, place) (Some (word_around bytes at), refl, same)

pub at_line : (bytes : List ℕ) (e : FormatError) (line : ℕ) (quote : Option (List ℕ)) → json_error e ≡ None → byte_of_error e ≡ None → line_of_error e ≡ Some line
    → quote ≡ Some (quote_text (line_numbered bytes line) (digits_before (line_numbered bytes line))) → IsQuote bytes e quote
at_line bytes e line quote plain no_byte place same = rw (plain, no_byte, place) (Some (line_numbered bytes line), refl, same)

pub nowhere : (bytes : List ℕ) (e : FormatError) → json_error e ≡ None → byte_of_error e ≡ None → line_of_error e ≡ None → IsQuote bytes e None
nowhere bytes e plain no_byte no_line = rw (plain, no_byte, no_line) (None, refl, refl)

pub of_json : (bytes : List ℕ) (e : FormatError) (first : JsonError) (piece quote : Option (List ℕ)) → json_error e ≡ Some first
    → IsJsonPart bytes first piece → quote ≡ option_map (λ part. quote_text part 0) piece → IsQuote bytes e quote
of_json bytes e first piece quote is stands same = rw is (piece, stands, same)

-- the part of a JSON text at the position of its error, or nothing if there is no position
pub text_at_error : (bytes : List ℕ) (first : JsonError) (name : ℕ) (item : Option ℕ) (found : Option (List ℕ)) → Some (name, item) ≡ json_error_at first
    → HasText bytes name item found → IsJsonPart bytes first found
text_at_error bytes first name item found is has =
    subst (λ (at : Option (ℕ × Option ℕ)). MatchOption at (found ≡ None) (λ p. HasText bytes p.0 p.1 found)) is has

pub no_json_error : (bytes : List ℕ) (first : JsonError) → None ≡ json_error_at first → IsJsonPart bytes first None
no_json_error bytes first is =
    let none : Option (List ℕ) = None in
    subst (λ (at : Option (ℕ × Option ℕ)). MatchOption at (none ≡ None) (λ p. HasText bytes p.0 p.1 none)) is refl
