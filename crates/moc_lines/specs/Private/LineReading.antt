-- The bytes that a line reader reads.
use Rattle.std.specs.Prelude.{◌≡◌, ℕ, Bool, nat_lt, ◌+◌, ◌<◌, ◌≤◌, List, [], ◌∷◌, ◌++◌, length, Result, Ok, Err}
use Rattle.std.specs.List.{position_or_len}
use Rattle.moc_text.specs.Lines.{is_line_feed}
use Rattle.moc_devices.specs.Devices.{SourceState, Delivers, IsEnded}
use Rattle.moc_lines.specs.Private.ReaderState.{ReaderState, HasNoLineFeed}
use Rattle.moc_lines.specs.Runs.{HasNotEnded}
use Rattle.moc_lines.specs.declared.line_reader.LineKind.{LineKind}
use Rattle.moc_lines.specs.declared.line_reader.LineKind.TheVariants.{Line, LastLine, EndOfInput}
use Rattle.moc_lines.specs.declared.run_error.RunError.{RunError}
use Rattle.moc_lines.specs.declared.run_error.RunError.TheVariants.{Read, LineTooLong, Memory}

-- The bytes that were in the buffer or read in this call are `bytes`. They are the line, its end and the rest of the
-- buffer, or they explain the error.
abbrev pub SplitsLine : ℕ → List ℕ → ReaderState → SourceState → Result LineKind RunError → Type 0
SplitsLine limit bytes held source (Ok Line) =
    (bytes ≡ held.line ++ 10 ∷ held.unread) × HasNoLineFeed held.line × (length held.line ≤ limit)
SplitsLine limit bytes held source (Ok LastLine) =
    (bytes ≡ held.line) × HasNoLineFeed held.line × (length held.line ≤ limit) × (0 < length held.line)
    × (held.unread ≡ []) × IsEnded source
SplitsLine limit bytes held source (Ok EndOfInput) = (bytes ≡ []) × (held.unread ≡ []) × IsEnded source
SplitsLine limit bytes held source (Err Read) = HasNoLineFeed bytes
SplitsLine limit bytes held source (Err (LineTooLong number)) =
    (line rest : List ℕ) × (bytes ≡ line ++ rest) × HasNoLineFeed line × (limit < length line)
SplitsLine limit bytes held source (Err (Memory number)) = 0 < length bytes
SplitsLine limit bytes held source (Err _) = ⊥

-- a call that looks for a line's end reads some bytes, and splits these after those in the buffer
abbrev pub ReadsLine : ℕ → ReaderState → SourceState → ReaderState → SourceState → Result LineKind RunError → Type 0
ReadsLine limit old source new source' result =
    (came : List ℕ) × Delivers source source' came × SplitsLine limit (old.unread ++ came) new source' result

-- whether the buffer has a whole line
abbrev pub has_line : List ℕ → Bool
has_line unread = nat_lt (position_or_len is_line_feed unread) (length unread)

-- A reader permits a read in each state up to which no further call failed and no line feed came after the unread
-- bytes. The unread bytes have no line feed.
abbrev pub PermitsReadsWithinLine : {R : Type 0} → (R → SourceState) → (R → Bool) → (R → Type 0) → List ℕ → R → Type 0
PermitsReadsWithinLine reading mark may_read unread reader =
    (reader' : _) (came : List ℕ) → Delivers (reading reader) (reading reader') came → mark reader' ≡ mark reader
    → HasNotEnded (reading reader) (reading reader') → HasNoLineFeed (unread ++ came) → may_read reader'

-- the error of reading a line: it names the line with this number, if it names one
abbrev pub IsOfLine : ℕ → RunError → Type 0
IsOfLine number Read = Unit {0}
IsOfLine number (LineTooLong line) = line ≡ number
IsOfLine number (Memory line) = line ≡ number
IsOfLine number _ = ⊥

-- why the buffer is not appended to the line with this number: the line becomes too long, or an allocation failed
abbrev pub FailsPart : ℕ → ℕ → ReaderState → RunError → Type 0
FailsPart number limit held (LineTooLong line) =
    (line ≡ number) × (limit < length held.line + position_or_len is_line_feed held.unread)
FailsPart number limit held (Memory line) = line ≡ number
FailsPart number limit held _ = ⊥

-- bytes were read and appended to the buffer
pub record ReadsMore (old : ReaderState) (source : SourceState) (new : ReaderState) (source' : SourceState)
    : Type 0 where
  pub came : List ℕ
  pub consumed : Delivers source source' came
  pub unread : new.unread ≡ old.unread ++ came
  pub line : new.line ≡ old.line
