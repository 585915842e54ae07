-- The state after the last line is processed or an error occurs, before the pending answers are written.
use Rattle.std.specs.Prelude.{◌≡◌, ℕ, ◌⊎◌, List, [], ◌++◌, Result, Ok, Err}
use Rattle.moc_devices.specs.Devices.{SourceState, Delivers, IsEnded, SinkState, Accepts}
use Rattle.moc_text.specs.Lines.{lines_of}
use Rattle.moc_lines.specs.Runs.{Rules, answers_to, closing_after, AreShort, IsTooLong, whole_lines_of, lines_before}
use Rattle.moc_lines.specs.Runs.{IsUnfinishedLine, IsUnclosed}
use Rattle.moc_lines.specs.declared.run_error.RunError.{RunError}
use Rattle.moc_lines.specs.declared.run_error.RunError.TheVariants.{Read, Write, LineTooLong, Memory, Spawn}

module _ {S : Type 0} (limit : ℕ) (rules : Rules S) (s : S) where
  -- the lines that have answers when a run ends with this result, given the bytes that were read; unspecified after
  -- a failed write
  abbrev pub EndsAt : List (List ℕ) → List ℕ → SourceState → Result (Unit {0}) RunError → Type 0
  EndsAt lines given source (Ok _) = IsEnded source × (lines ≡ lines_of given)
  EndsAt lines given source (Err Write) = Unit {0}
  EndsAt lines given source (Err Read) = lines ≡ whole_lines_of given
  EndsAt lines given source (Err (LineTooLong number)) =
      IsTooLong limit (lines_of given) number × (lines ≡ lines_before number given)
  EndsAt lines given source (Err (Memory number)) =
      (IsUnfinishedLine number given
      ⊎ (IsEnded source × IsUnclosed number given (closing_after rules s (lines_of given))))
      × (lines ≡ lines_before number given)
  EndsAt lines given source (Err Spawn) = ⊥

-- the output of a run that ends so: the answers to the lines, then the closing text if all lines have answers
abbrev pub text_at : {S : Type 0} → Rules S → S → List (List ℕ) → Result (Unit {0}) RunError → List ℕ
text_at rules s lines (Ok _) = answers_to rules s lines ++ closing_after rules s lines
text_at rules s lines (Err _) = answers_to rules s lines

-- the text is written except for what is pending, or except for some rest if the writer failed
abbrev pub IsSent : List ℕ → List ℕ → List ℕ → Result (Unit {0}) RunError → Type 0
IsSent text sent pending (Err Write) = (rest : List ℕ) × (text ≡ sent ++ rest)
IsSent text sent pending _ = text ≡ sent ++ pending

module _ {S : Type 0} (limit : ℕ) (rules : Rules S) (s : S) where
  -- the state after the last line is processed or an error occurs
  pub record Ended (source source' : SourceState) (sink sink' : SinkState) (pending : List ℕ)
      (result : Result (Unit {0}) RunError) : Type 0 where
    pub lines : List (List ℕ)
    pub given : List ℕ
    pub sent : List ℕ
    pub consumed : Delivers source source' given
    pub appended : Accepts sink sink' sent
    pub within : AreShort limit lines
    pub front : (more : List ℕ) → (IsEnded source' → more ≡ [])
        → (rest : List (List ℕ)) × (lines_of (given ++ more) ≡ lines ++ rest)
    pub ends : EndsAt limit rules s lines given source' result
    pub text : IsSent (text_at rules s lines result) sent pending result
