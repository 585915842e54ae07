-- Schedules of steps on the step machine: the steps of their lines, and the texts of their answers.
use Rattle.std.specs.Prelude.{ℕ, List, codes, nat_lt, Result, Ok, Err, if◌then◌else◌, suc, ◌==◌, [], ◌∷◌, ◌++◌, decimal}
use Rattle.std.specs.Prelude.{get_or, Option, None, Some}
use Rattle.moc_text.specs.Names.{fault_report}
use Rattle.moc_lines.specs.Language.{name_of_line_error, is_blank_text, word_of, after_word, decimal_value, ◌>>=◌}
use Rattle.moc_lines.specs.Language.{only_field, two_numbers, command_of, batch_of, cover_text, replies_text}
use Rattle.moc_steps.specs.declared.error.StepError.{StepError}
use Rattle.moc_steps.specs.declared.error.StepError.TheVariants.{NotIdle, Idle, PartHeld, AllTaken, NotAllTaken}
use Rattle.moc_steps.specs.declared.error.StepError.TheVariants.{NotHeld, AlreadyEdited, NotEdited, BegunEditing}
use Rattle.moc_steps.specs.declared.error.StepError.TheVariants.{StillHolding, NothingDone, Quitting, Memory, TooMany}
use Rattle.std.specs.Option.{ok_or, option_map_or}
use Rattle.std.specs.Str.{bytes_eq}
use Rattle.moc_parts.specs.declared.command.Command.{Command}
use Rattle.moc_steps.specs.Machine.{Step, refusal, World, Entry, start_world, world_after, reply_to, whole}
use Rattle.moc_steps.specs.Machine.Step.{Begin, Take, Edit, Give, Quit, End}
use Rattle.moc_lines.specs.declared.error.LineError.{LineError}
use Rattle.moc_lines.specs.declared.error.LineError.TheVariants.{UnknownWord, WrongCount, BadNumber}
use Rattle.moc_lines.specs.declared.error.LineError.TheVariants.{ClientTooLarge, PartTooLarge}
use Rattle.std.specs.List.{cons_option, flat_map}
use Rattle.std.specs.FinSet as set
use Rattle.std.specs.FinMap as map
use Rattle.moc_parts.specs.Batches.{batches}
use Rattle.moc_parts.specs.declared.reply.Reply.{Reply}
use Rattle.moc_lines.specs.Runs.{Rules, script_text, line_limit}

-- Errors

-- the name of the error of a refused step, without its numbers; Memory is not the answer of a step, since it ends the
-- schedule
abbrev pub name_of_refusal : StepError → List ℕ
name_of_refusal NotIdle = codes "NotIdle"
name_of_refusal Idle = codes "Idle"
name_of_refusal (PartHeld part by) = codes "PartHeld"
name_of_refusal AllTaken = codes "AllTaken"
name_of_refusal NotAllTaken = codes "NotAllTaken"
name_of_refusal NotHeld = codes "NotHeld"
name_of_refusal AlreadyEdited = codes "AlreadyEdited"
name_of_refusal NotEdited = codes "NotEdited"
name_of_refusal BegunEditing = codes "BegunEditing"
name_of_refusal StillHolding = codes "StillHolding"
name_of_refusal NothingDone = codes "NothingDone"
name_of_refusal Quitting = codes "Quitting"
name_of_refusal Memory = codes "Memory"
name_of_refusal TooMany = codes "TooMany"

-- The step of a line

-- a step with a client's batch of commands
abbrev pub BatchStep : Type 0
BatchStep = Step (List Command)

-- the client of a field: a number of 32 bits
abbrev pub client_by : List ℕ → Result ℕ LineError
client_by field = do
  client ← ok_or (decimal_value field) BadNumber
  if nat_lt 4294967295 client then Err ClientTooLarge else Ok client

-- the client of a text: exactly one field
abbrev pub only_client : List ℕ → Result ℕ LineError
only_client text = do
  field ← only_field text
  client_by field

-- the client and the part, one of twelve, of a text: exactly two fields
abbrev pub only_client_and_part : List ℕ → Result (ℕ × ℕ) LineError
only_client_and_part text = do
  (c, b) ← two_numbers text
  if nat_lt 4294967295 c then Err ClientTooLarge
      else (if nat_lt 11 b then Err PartTooLarge else Ok (c, b))

-- a step of a client, which the text names
abbrev pub step_by : (ℕ → BatchStep) → List ℕ → Result BatchStep LineError
step_by step text = do
  c ← only_client text
  Ok (step c)

-- a step of a client at a part, which the text names
abbrev pub step_at : (ℕ → ℕ → BatchStep) → List ℕ → Result BatchStep LineError
step_at step text = do
  both ← only_client_and_part text
  Ok (step both.0 both.1)

-- the step with a word that does not begin an operation, and the text after it
abbrev pub other_step : List ℕ → List ℕ → Result BatchStep LineError
other_step word text =
    if bytes_eq word (codes "take") then step_by (λ c. Take c) text
    else (if bytes_eq word (codes "edit") then step_at (λ c b. Edit c b) text
    else (if bytes_eq word (codes "give") then step_at (λ c b. Give c b) text
    else (if bytes_eq word (codes "quit") then step_by (λ c. Quit c) text
    else (if bytes_eq word (codes "end") then step_by (λ c. End c) text
    else Err UnknownWord))))

module _ (batch_parser : List ℕ → Result (List Command) LineError) where
  -- the rest of `begin`: a client, and its batch of commands
  abbrev pub begin_by : List ℕ → List ℕ → Result BatchStep LineError
  begin_by client line = do
    c ← client_by client
    commands ← batch_parser line
    Ok (Begin c commands)

  -- the rest of `begin`, with a word after the client
  abbrev pub begin_of : List ℕ → Result BatchStep LineError
  begin_of text =
      if is_blank_text (after_word text) then Err WrongCount else begin_by (word_of text) (after_word text)

  -- the step of a line, given a parser of batches
  abbrev pub step_with_batches : List ℕ → Result BatchStep LineError
  step_with_batches line =
      if bytes_eq (word_of line) (codes "begin") then begin_of (after_word line)
      else other_step (word_of line) (after_word line)

-- the step of a line
abbrev pub step_of_line : List ℕ → Result BatchStep LineError
step_of_line line = step_with_batches (batch_of command_of) line

-- The answer to a line

-- the state of a schedule
pub record Schedule : Type 0 where
  -- the step machine, of batches of commands
  pub world : World (List Command) (List Reply)
  -- the number of lines that were read
  pub lines : ℕ
  -- for each operation the number of the line that began it, from 1
  pub begins : List ℕ

-- no line was read, and the machine's set is empty
abbrev pub start_schedule : Schedule
start_schedule = record { world = start_world batches set.empty; lines = 0; begins = [] }

-- the answer to a permitted step: the replies of an End that did not quit
abbrev pub done_text : Option (List Reply) → List ℕ
done_text replies = option_map_or replies_text replies (codes "ok")

-- the answer to a parsed line, with its line feed: a step is refused, or done
abbrev pub answer_to_step : Schedule → Result BatchStep LineError → List ℕ
answer_to_step s (Ok step) =
    option_map_or (λ why. codes "refused " ++ name_of_refusal why) (refusal batches s.world.locks step)
    (done_text (reply_to batches s.world step)) ++ 10 ∷ []
answer_to_step s (Err error) = fault_report (name_of_line_error error)

-- one more line was read
abbrev pub next_line : Schedule → Schedule
next_line s = record s { lines = suc s.lines }

-- the lines that began operations, after a step of the line with this number
abbrev pub begin_lines_after : List ℕ → ℕ → BatchStep → List ℕ
begin_lines_after begins number (Begin c commands) = begins ++ number ∷ []
begin_lines_after begins number step = begins

-- the step of a parsed line: none if the line is invalid or the step is refused
abbrev pub step_taken : Schedule → Result BatchStep LineError → Option BatchStep
step_taken s (Ok step) = option_map_or (λ why. None) (refusal batches s.world.locks step) (Some step)
step_taken s (Err error) = None

-- the state after the step of the last line; without a step it is unchanged
abbrev pub with_step : Schedule → Option BatchStep → Schedule
with_step s None = s
with_step s (Some step) = record s {
  world = world_after batches s.world step;
  begins = begin_lines_after s.begins s.lines step;
}

-- for each entry of the order a space and the line that began its operation
abbrev pub begin_lines : List ℕ → List (Entry (List Reply)) → List ℕ
begin_lines begins order = flat_map (λ entry. codes " " ++ decimal (get_or begins entry.begin 0)) order

-- the set of the twelve parts, or the number of clients in the middle of a batch
abbrev pub end_text : World (List Command) (List Reply) → List ℕ
end_text w =
    let midway = map.len w.locks.clients in
    if midway == 0 then cover_text (whole batches w) else codes "midway " ++ decimal midway

-- the two last lines: the committed operations in their order, and the set
abbrev pub last_lines : Schedule → List ℕ
last_lines s = codes "order" ++ begin_lines s.begins s.world.order ++ 10 ∷ end_text s.world ++ 10 ∷ []

-- the rules for lines of steps, given a parser of lines; blank lines have no answer, and are counted
abbrev pub step_rules : (List ℕ → Result BatchStep LineError) → Rules Schedule
step_rules denotes = record {
  answer = λ s line. if is_blank_text line then [] else answer_to_step s (denotes line);
  after = λ s line. if is_blank_text line then next_line s else with_step (next_line s) (step_taken s (denotes line));
  closing = last_lines;
}

-- the rules for the lines of a schedule
abbrev pub schedule_rules : Rules Schedule
schedule_rules = step_rules step_of_line

-- the steps of lines, each in the state after those before it
abbrev pub steps_taken : Schedule → List (List ℕ) → List BatchStep
steps_taken s [] = []
steps_taken s (line ∷ lines) =
    cons_option (if is_blank_text line then None else step_taken s (step_of_line line))
    (steps_taken (schedule_rules.after s line) lines)

-- the answers to a schedule
abbrev pub schedule_text : List ℕ → List ℕ
schedule_text input = script_text schedule_rules line_limit start_schedule input
