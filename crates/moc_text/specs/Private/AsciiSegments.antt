-- The progress of parsing the ASCII format in segments.
use Rattle.std.specs.Prelude.{◌≡◌, ℕ, ◌+◌, ◌<◌, ◌^◌, List, [], ◌++◌, length, None, Some}
use Rattle.moc_text.specs.Ascii.{words_from}
use Rattle.moc_text.specs.Private.AsciiReading.{Progress}
use Rattle.moc_text.specs.declared.ascii.error.TextError.{TextError}
use Rattle.moc_text.specs.declared.ascii.parser.AsciiParser.{AsciiParser}

-- No word continues after these bytes: the words of a longer text are theirs, and those of the bytes after them.
abbrev pub EndsBetweenWords : List ℕ → Type 0
EndsBetweenWords text =
    (at : ℕ) (rest : List ℕ) → words_from at (text ++ rest) ≡ words_from at text ++ words_from (at + length text) rest

-- The parser has taken this text without an error: the words are parsed up to the pending bytes.
pub record HasParsed (text : List ℕ) (p : AsciiParser) : Type 0 where
  pub before : List ℕ
  pub parts : text ≡ before ++ p.pending.items
  pub ends : EndsBetweenWords before
  pub read : Progress before [] p.reading.cells p.reading.order p.reading.moc_order
  pub len_is : p.len ≡ length text
  pub fits : length text < 2 ^ 64
  pub without_error : p.error ≡ None

-- The parser failed with this error, and fails with it from then on.
abbrev pub HasFailed : TextError → AsciiParser → Type 0
HasFailed e p = p.error ≡ Some e
