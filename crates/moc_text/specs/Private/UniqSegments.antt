-- The progress of parsing a NUNIQ list in segments.
use Rattle.std.specs.Prelude.{◌≡◌, ℕ, List, [], ◌++◌, None, Some}
use Rattle.std.specs.FinSet as set
use Rattle.moc_text.specs.Lines.{lines_of}
use Rattle.moc_text.specs.Private.UniqReading.{AreLinesRead}
use Rattle.moc_text.specs.declared.uniq.UniqError.{UniqError}
use Rattle.moc_text.specs.declared.uniq.parser.UniqParser.{UniqParser}

-- No line continues after these bytes: the lines of a longer text are theirs, and those of the bytes after them.
abbrev pub EndsBetweenLines : List ℕ → Type 0
EndsBetweenLines text = (rest : List ℕ) → lines_of (text ++ rest) ≡ lines_of text ++ lines_of rest

-- The parser has taken this text without an error: the lines are parsed up to the pending bytes.
pub record HasParsedUniq (text : List ℕ) (p : UniqParser) : Type 0 where
  pub before : List ℕ
  pub parts : text ≡ before ++ p.pending.items
  pub ends : EndsBetweenLines before
  pub read : AreLinesRead 1 before set.empty p.line [] p.cells
  pub without_error : p.error ≡ None

-- The parser failed with this error, and fails with it from then on.
abbrev pub HasFailedUniq : UniqError → UniqParser → Type 0
HasFailedUniq e p = p.error ≡ Some e
