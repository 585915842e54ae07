-- Theorems on the languages of scripts and schedules.
use Rattle.std.specs.Prelude.{◌≡◌, ℕ, Bool, false, ◌==◌, List, ◌∷◌, [], length, Result, Ok}
use Rattle.std.specs.List.{list_any}
use Rattle.std.specs.FinSet as set
use Rattle.moc_lists.specs.RangeList.{NumberSet}
use Rattle.moc_parts.specs.Batches.{batches}
use Rattle.moc_parts.specs.declared.command.Command.{Command}
use Rattle.moc_steps.specs.Orders.{operations}
use Rattle.moc_steps.specs.Theorems.{AreValidSteps, HasOneOrder, reached_world}
use Rattle.moc_lines.specs.Language.{is_blank_text, ◌>>=◌, plain_operand_of, command_by, command_of}
use Rattle.moc_lines.specs.Language.{batch_of}
use Rattle.moc_text.specs.Lines.{is_semicolon}
use Rattle.moc_lines.specs.Runs.{Rules, after_lines, script_text, line_limit, rules_by, script_rules, answers_of}
use Rattle.moc_script.specs.Schedules.{BatchStep, step_with_batches, Schedule}
use Rattle.moc_script.specs.Schedules.{step_rules, schedule_rules, start_schedule}
use Rattle.moc_script.specs.Schedules.{steps_taken, schedule_text}
use Rattle.moc_lines.specs.declared.error.LineError.{LineError}

-- the batch of the one command of a text
abbrev pub one_command : List ℕ → Result (List Command) LineError
one_command text = do
  command ← command_of text
  Ok (command ∷ [])

-- A line without a semicolon that is not blank is a batch of the command that it is as one piece.
abbrev pub LinesOfOneCommand : Type 0
LinesOfOneCommand =
    (line : List ℕ) → list_any is_semicolon line ≡ false → is_blank_text line ≡ false
    → batch_of command_of line ≡ one_command line

-- `@`
abbrev pub is_at_sign : ℕ → Bool
is_at_sign b = b == 64

-- the language without orders: an operand is a coverage alone
abbrev pub plain_rules : Rules NumberSet
plain_rules = rules_by (batch_of (command_by plain_operand_of))

-- A line without `@` has the answer and the effect that it has in the language without orders.
abbrev pub LinesWithoutOrder : Type 0
LinesWithoutOrder =
    (a : NumberSet) (line : List ℕ) → list_any is_at_sign line ≡ false
    → (script_rules.answer a line ≡ plain_rules.answer a line) × (script_rules.after a line ≡ plain_rules.after a line)

-- A script without a semicolon has the answers that it has in the language without batches, where a line is one
-- command.
abbrev pub ScriptsOfSingleCommands : Type 0
ScriptsOfSingleCommands =
    (input : List ℕ) → list_any is_semicolon input ≡ false
    → answers_of input ≡ script_text (rules_by one_command) line_limit set.empty input

-- A script without `@` has the answers that it has in the language without orders.
abbrev pub ScriptsWithoutOrder : Type 0
ScriptsWithoutOrder =
    (input : List ℕ) → list_any is_at_sign input ≡ false
    → answers_of input ≡ script_text plain_rules line_limit set.empty input

-- A schedule without a semicolon has the answers that it has in the language without batches.
abbrev pub SchedulesOfSingleCommands : Type 0
SchedulesOfSingleCommands =
    (input : List ℕ) → list_any is_semicolon input ≡ false
    → schedule_text input ≡ script_text (step_rules (step_with_batches one_command)) line_limit start_schedule input

-- A schedule without `@` has the answers that it has in the language without orders.
abbrev pub SchedulesWithoutOrder : Type 0
SchedulesWithoutOrder =
    (input : List ℕ) → list_any is_at_sign input ≡ false
    → schedule_text input
    ≡ script_text (step_rules (step_with_batches (batch_of (command_by plain_operand_of)))) line_limit start_schedule
    input

-- Steps lead from the empty set to the state of a schedule, and its last lines explain them.
pub record HaveExplainedOrder (steps : List BatchStep) (s : Schedule) : Type 0 where
  -- each is permitted when it is taken
  pub played : AreValidSteps batches set.empty steps
  -- they lead to the schedule's world
  pub leads : reached_world batches set.empty steps ≡ s.world
  -- its order explains them: each finished operation has the reply of one single set; if no client is in the middle of
  -- a batch, this is the schedule's set
  pub ordered : HasOneOrder batches set.empty steps
  -- there is a line for each operation, which began it
  pub begins_match : length s.begins ≡ length (operations steps)

-- The steps of the lines of a schedule lead to its state after them, and its last lines explain them.
abbrev pub SchedulesHaveOneOrder : Type 0
SchedulesHaveOneOrder =
    (lines : List (List ℕ))
    → HaveExplainedOrder (steps_taken start_schedule lines) (after_lines schedule_rules start_schedule lines)
