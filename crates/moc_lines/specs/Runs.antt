-- Scripts, and what a run of one has read and written when it ends.
use Rattle.std.specs.Prelude.{ℕ, nat_le, Bool, List, [], ◌++◌, length, if◌then◌else◌, fold, Result, ◌≡◌, ◌≢◌, ◌+◌}
use Rattle.std.specs.Prelude.{◌-◌, ◌^◌, ◌<◌, ◌≤◌, ◌⊎◌, take, Option, Some, Ok, Err, OnOk, OnErr, IsErrOf, IsTrue, ◌↔◌}
use Rattle.std.specs.Prelude.{false, slice_index_or, codes}
use Rattle.std.specs.List.{list_all, take_while, AllByRecursion, concat, count_by, scan}
use Rattle.moc_text.specs.Lines.{lines_of, is_line_feed}
use Rattle.std.specs.FinSet as set
use Rattle.moc_lists.specs.RangeList.{NumberSet}
use Rattle.moc_parts.specs.declared.command.Command.{Command}
use Rattle.moc_lines.specs.declared.error.LineError.{LineError}
use Rattle.moc_lines.specs.Language.{batch_of, command_of, line_answer, after_line}
use Rattle.moc_devices.specs.Devices.{SourceState, Delivers, IsEnded, SinkState, Accepts, CallsMore}
use Rattle.moc_lines.specs.declared.run_error.RunError.{RunError}
use Rattle.moc_lines.specs.declared.run_error.RunError.TheVariants.{Read, Write, LineTooLong, Memory, Spawn}

-- The answers to a script

-- rules for lines: the answer to a line, the state after a line, and the closing text after the last line
pub record Rules (S : Type 0) : Type 0 where
  pub answer : S → List ℕ → List ℕ
  pub after : S → List ℕ → S
  pub closing : S → List ℕ

-- the line has no more bytes than the limit
abbrev pub is_short : ℕ → List ℕ → Bool
is_short limit line = nat_le (length line) limit

module _ {S : Type 0} (rules : Rules S) where
  -- the answers to lines in order, each in the state after the lines before it
  abbrev pub answers_to : S → List (List ℕ) → List ℕ
  answers_to s lines = concat (scan rules.after rules.answer s lines)

  -- the state after lines
  abbrev pub after_lines : S → List (List ℕ) → S
  after_lines s lines = fold rules.after s lines

  -- the closing text after lines
  abbrev pub closing_after : S → List (List ℕ) → List ℕ
  closing_after s lines = rules.closing (after_lines s lines)

  -- the answers to the lines of a script before the first line over the limit; the closing text if no line is over it
  abbrev pub script_text : ℕ → S → List ℕ → List ℕ
  script_text limit s input =
      let lines = lines_of input in
      answers_to s (take_while (is_short limit) lines)
      ++ (if list_all (is_short limit) lines then closing_after s lines else [])

-- Scripts of commands on a set of pixels

-- the maximal number of bytes of a line
abbrev pub line_limit : ℕ
line_limit = 1048576

-- the rules for lines of commands, given a parser of lines; the closing text is empty
abbrev pub rules_by : (List ℕ → Result (List Command) LineError) → Rules NumberSet
rules_by denotes = record { answer = line_answer denotes; after = after_line denotes; closing = λ _. [] }

-- the rules for the lines of a script
abbrev pub script_rules : Rules NumberSet
script_rules = rules_by (batch_of command_of)

-- the answers to a script, on a set that is empty at first
abbrev pub answers_of : List ℕ → List ℕ
answers_of input = script_text script_rules line_limit set.empty input

-- What a run has read and written when it ends

-- no line is over the limit
abbrev pub AreShort : ℕ → List (List ℕ) → Type 0
AreShort limit lines = AllByRecursion (λ line. length line ≤ limit) lines

-- the line with this number, counted from 1, is over the limit
abbrev pub IsTooLong : ℕ → List (List ℕ) → ℕ → Type 0
IsTooLong limit lines number = (0 < number) × (limit < length (slice_index_or lines (number - 1) []))

-- the lines of a text that a line feed ends; their number is that of its line feeds
abbrev pub whole_lines_of : List ℕ → List (List ℕ)
whole_lines_of text = take (count_by is_line_feed text) (lines_of text)

-- the lines before the one with this number, counted from 1
abbrev pub lines_before : ℕ → List ℕ → List (List ℕ)
lines_before number text = take (number - 1) (lines_of text)

-- The line with this number is the first without an answer: some of it was given, and 0 is before the first byte.
-- The last number of 64 bits stands for all lines from there on.
pub record IsUnfinishedLine (number : ℕ) (given : List ℕ) : Type 0 where
  pub none : number ≡ 0 → given ≡ []
  pub some : number < 2 ^ 64 - 1 → number ≤ length (lines_of given)
  pub next : number ≤ length (lines_of given) + 1

-- All lines have answers, and the closing text, which is not empty, was not made: its number is that of the line after
-- the last.
pub record IsUnclosed (number : ℕ) (given closing : List ℕ) : Type 0 where
  pub next : number ≡ length (lines_of given) + 1
  pub some : closing ≢ []

-- a source was not read since the first state, or its last read did not find the end
abbrev pub HasNotEnded : SourceState → SourceState → Type 0
HasNotEnded reading reading' = (reading' ≡ reading) ⊎ (reading'.ended ≡ false)

module _ {S : Type 0} (rules : Rules S) (s : S) where
  -- the writer has accepted the answers to all whole lines that the reader has delivered, both since the first states
  pub record AreLinesAnswered (reading reading' : SourceState) (writing writing' : SinkState) : Type 0 where
    pub given : List ℕ
    pub delivered : Delivers reading reading' given
    pub accepted : Accepts writing writing' (answers_to rules s (whole_lines_of given))

-- at Ok all was read and all is flushed; at an error all is flushed only if it was before
pub record EndsFlushed {T E : Type 0} (result : Result T E) (reading' : SourceState) (before after : Bool)
    : Type 0 where
  pub end : OnOk result (IsEnded reading')
  pub flushed : OnOk result (IsTrue after)
  pub unflushed : OnErr result (IsTrue after → IsTrue before)

-- the error of a run names a device only if it has failed; if a device has failed, the error is that of a device
pub record ReportsFailure (result : Result (Unit {0}) RunError) (reader writer : Bool) : Type 0 where
  pub read : IsErrOf result Read → IsTrue reader
  pub write : IsErrOf result Write ↔ IsTrue writer
  pub reported : IsTrue reader → IsErrOf result Read ⊎ IsErrOf result Write

-- the number of flushes of a run: one at Ok, none or one if the writer failed, none at any other error
abbrev pub Flushes : Result (Unit {0}) RunError → Option ℕ → Option ℕ → Type 0
Flushes (Ok _) old new = CallsMore old new 1
Flushes (Err Write) old new = CallsMore old new 0 ⊎ CallsMore old new 1
Flushes (Err _) old new = CallsMore old new 0

module _ {S : Type 0} (limit : ℕ) (rules : Rules S) (s : S) where
  -- The output of a run with this result whose source delivered this input. At Ok the source has ended, and the output
  -- is the text of the whole input. At an error that is not the writer's it is the answers to the lines before the
  -- error. After a failed write only `Runs.is_prefix` is known. A run starts no thread.
  abbrev pub IsOutput :
      (input : List ℕ) (at_end : SourceState) → Result (Unit {0}) RunError → (output : List ℕ) → Type 0
  IsOutput input at_end (Ok _) output =
      IsEnded at_end × AreShort limit (lines_of input) × (output ≡ script_text rules limit s input)
  IsOutput input at_end (Err Write) output = Unit {0}
  IsOutput input at_end (Err Read) output =
      AreShort limit (whole_lines_of input) × (output ≡ answers_to rules s (whole_lines_of input))
  IsOutput input at_end (Err (LineTooLong line)) output =
      IsTooLong limit (lines_of input) line × AreShort limit (lines_before line input)
      × (output ≡ answers_to rules s (lines_before line input))
  IsOutput input at_end (Err (Memory line)) output =
      (IsUnfinishedLine line input
      ⊎ (IsEnded at_end × IsUnclosed line input (closing_after rules s (lines_of input))))
      × AreShort limit (lines_before line input) × (output ≡ answers_to rules s (lines_before line input))
  IsOutput input at_end (Err Spawn) output = ⊥

  -- What a run did: its source delivered the input, and its sink accepted the output. The output is a prefix of the
  -- text of the input and of any bytes that may still follow; no byte follows once the source has ended.
  pub record Runs (reading reading' : SourceState) (writing writing' : SinkState) (result : Result (Unit {0}) RunError)
      : Type 0 where
    pub input : List ℕ
    pub output : List ℕ
    pub delivered : Delivers reading reading' input
    pub accepted : Accepts writing writing' output
    pub is_prefix : (more : List ℕ) → (IsEnded reading' → more ≡ [])
        → (rest : List ℕ) × (script_text rules limit s (input ++ more) ≡ output ++ rest)
    pub is_output : IsOutput input reading' result output

-- The source delivered its whole input, to its end, and the sink accepted the text of that input.
abbrev pub AnswersAll :
    (text_of : List ℕ → List ℕ) (reading reading' : SourceState) (writing writing' : SinkState) → Type 0
AnswersAll text_of reading reading' writing writing' =
    (input : List ℕ) × Delivers reading reading' input × IsEnded reading' × Accepts writing writing' (text_of input)

-- If the source reports its input, then whatever the result is, the output is a prefix of the text of that input; at Ok
-- the source delivered the whole of it.
pub record AnswersReportedInput {S : Type 0} (limit : ℕ) (rules : Rules S) : Type 0 where
  pub is_prefix : (s : S) (input : List ℕ) (a b : SourceState) (w v : SinkState) (result : Result (Unit {0}) RunError)
      → a.left ≡ Some input → (runs : Runs limit rules s a b w v result)
      → (rest : List ℕ) × (script_text rules limit s input ≡ runs.output ++ rest)
  pub is_whole : (s : S) (input : List ℕ) (a b : SourceState) (w v : SinkState) (result : Result (Unit {0}) RunError)
      → a.left ≡ Some input → (runs : Runs limit rules s a b w v result) → OnOk result (runs.input ≡ input)

-- A script that is read whole

-- all was read, and no line of it has more bytes than the limit
abbrev pub ReadsAll : SourceState → SourceState → List ℕ → Type 0
ReadsAll reading reading' input =
    Delivers reading reading' input × IsEnded reading' × AreShort line_limit (lines_of input)

-- the error of reading a script: the line that it names, of what was given, is over the limit, or is the unfinished one
abbrev pub FailsOn : List ℕ → RunError → Type 0
FailsOn given Read = Unit {0}
FailsOn given (LineTooLong line) = IsTooLong line_limit (lines_of given) line
FailsOn given (Memory line) = IsUnfinishedLine line given
FailsOn given _ = ⊥

-- the name of the error of a run that ended early
abbrev pub name_of_run_error : RunError → List ℕ
name_of_run_error Read = codes "Read"
name_of_run_error Write = codes "Write"
name_of_run_error (LineTooLong line) = codes "LineTooLong"
name_of_run_error (Memory line) = codes "Memory"
name_of_run_error Spawn = codes "Spawn"
