-- Languages with the same answer to each line have the same answers to scripts and schedules.
use Rattle.std.proofs.Common.{◌≡◌, ℕ, Bool, true, false, cond, List, [], ◌∷◌, ◌++◌, Result, Ok, Err, codes, refl}
use Rattle.std.proofs.Common.{ap, ◌∙◌}
use Rattle.std.specs.List.{AllByRecursion, list_all, list_any, onto_first, take_while}
use Rattle.std.specs.Str.{bytes_eq}
use Rattle.std.specs.FinSet as set
use Rattle.std.proofs.lemmas.List.Sums.{take_while-cons}
use Rattle.moc_text.specs.Lines.{is_line_feed, lines_of, is_semicolon}
use Rattle.moc_lists.specs.RangeList.{NumberSet}
use Rattle.moc_parts.specs.declared.command.Command.{Command}
use Rattle.moc_steps.specs.Machine.Step.{Begin}
use Rattle.moc_lines.specs.Runs.{Rules, is_short, answers_to, after_lines, script_text, line_limit, rules_by, script_rules}
use Rattle.moc_lines.specs.Language.{answer_to, after_batch, is_blank_text, word_of, after_word, batch_of, ◌>>=◌, command_of, command_by}
use Rattle.moc_lines.specs.Language.{plain_operand_of}
use Rattle.moc_script.specs.Schedules.{BatchStep, client_by, begin_of, other_step, step_with_batches, step_of_line}
use Rattle.moc_script.specs.Schedules.{Schedule, next_line, answer_to_step, step_taken, with_step, last_lines, step_rules}
use Rattle.moc_script.specs.Schedules.{start_schedule}
use Rattle.moc_lines.specs.declared.error.LineError.{LineError}
use Rattle.moc_lines.specs.declared.error.LineError.TheVariants.{WrongCount}
use Rattle.moc_script.specs.Theorems.{plain_rules, is_at_sign, one_command}
use Rattle.moc_script.specs.Theorems.{ScriptsOfSingleCommands, ScriptsWithoutOrder, SchedulesOfSingleCommands}
use Rattle.moc_script.specs.Theorems.{SchedulesWithoutOrder}
use Rattle.moc_script.proofs.Single.{batch-single, lines_of_one_command}
use Rattle.moc_script.proofs.Unordered.{both_false, onto, none_after, batch_plain, lines_without_order}

-- a test that no byte of a text passes, no byte of its lines passes
none_in_lines : (p : ℕ → Bool) (text : List ℕ) → list_any p text ≡ false → AllByRecursion (λ l. list_any p l ≡ false) (lines_of text)
none_in_lines p [] none = tt
none_in_lines p (x ∷ text) none =
    let split = both_false (p x) (list_any p text) none in
    let later = none_in_lines p text split.1 in
    elim (is_line_feed x) as (λ v. AllByRecursion (λ l. list_any p l ≡ false) (cond v ([] ∷ lines_of text) (onto_first x (lines_of text)))) [
      | true ↦ (refl, later)
      | false ↦ onto p x (lines_of text) split.0 later
    ]

each-take_while : {X : Type 0} (P : X → Type 0) (test : X → Bool) (xs : List X) → AllByRecursion P xs → AllByRecursion P (take_while test xs)
each-take_while P test [] each = tt
each-take_while P test (x ∷ xs) each =
    let later = each-take_while P test xs each.1 in
    rw (take_while-cons test x xs) (elim (test x) as (λ v. AllByRecursion P (cond v (x ∷ take_while test xs) [])) [
      | true ↦ (each.0, later)
      | false ↦ tt
    ])

module _ {S : Type 0} (rules others : Rules S) (Q : List ℕ → Type 0)
    (same : (s : S) (line : List ℕ) → Q line → (rules.answer s line ≡ others.answer s line) × (rules.after s line ≡ others.after s line)) where
  same_answers : (s : S) (lines : List (List ℕ)) → AllByRecursion Q lines → answers_to rules s lines ≡ answers_to others s lines
  same_answers s [] each = refl
  same_answers s (line ∷ lines) each =
      let now = same s line each.0 in
      ap (λ l. l ++ answers_to rules (rules.after s line) lines) now.0 ∙ ap (λ x. others.answer s line ++ answers_to rules x lines) now.1
      ∙ ap (λ l. others.answer s line ++ l) (same_answers (others.after s line) lines each.1)

  same_left : (s : S) (lines : List (List ℕ)) → AllByRecursion Q lines → after_lines rules s lines ≡ after_lines others s lines
  same_left s [] each = refl
  same_left s (line ∷ lines) each = ap (λ x. after_lines rules x lines) (same s line each.0).1 ∙ same_left (others.after s line) lines each.1

-- a line without a semicolon, blank or not
single_line : (a : NumberSet) (line : List ℕ) → list_any is_semicolon line ≡ false
    → (script_rules.answer a line ≡ (rules_by one_command).answer a line) × (script_rules.after a line ≡ (rules_by one_command).after a line)
single_line a line none =
    let step : (b : Bool) → is_blank_text line ≡ b → (script_rules.answer a line ≡ (rules_by one_command).answer a line) × (script_rules.after a line ≡ (rules_by one_command).after a line) =
    λ b. elim b as (λ v. is_blank_text line ≡ v → (script_rules.answer a line ≡ (rules_by one_command).answer a line) × (script_rules.after a line ≡ (rules_by one_command).after a line)) [
      | true ↦ λ is. rw is (refl, refl)
      | false ↦ λ is. let the_theorem = lines_of_one_command line none is in (
        ap (λ r. cond (is_blank_text line) [] (answer_to a r)) the_theorem,
        ap (λ r. cond (is_blank_text line) a (after_batch a r)) the_theorem,
      )
    ] in
    step (is_blank_text line) refl

pub scripts_of_single_commands : ScriptsOfSingleCommands
scripts_of_single_commands input none =
    ap (λ text. text ++ cond (list_all (is_short line_limit) (lines_of input)) [] [])
    (same_answers script_rules (rules_by one_command) (λ l. list_any is_semicolon l ≡ false) single_line set.empty _
    (each-take_while _ (is_short line_limit) (lines_of input) (none_in_lines is_semicolon input none)))

pub scripts_without_order : ScriptsWithoutOrder
scripts_without_order input none =
    ap (λ text. text ++ cond (list_all (is_short line_limit) (lines_of input)) [] [])
    (same_answers script_rules plain_rules (λ l. list_any is_at_sign l ≡ false) lines_without_order set.empty _
    (each-take_while _ (is_short line_limit) (lines_of input) (none_in_lines is_at_sign input none)))

-- Equal steps have equal answers.
module _ (denotes others : List ℕ → Result BatchStep LineError) (Q : List ℕ → Type 0) (same : (line : List ℕ) → Q line → denotes line ≡ others line) where
  same_step : (s : Schedule) (line : List ℕ) → Q line → ((step_rules denotes).answer s line ≡ (step_rules others).answer s line) × ((step_rules denotes).after s line ≡ (step_rules others).after s line)
  same_step s line each = (
    ap (λ r. cond (is_blank_text line) [] (answer_to_step s r)) (same line each),
    ap (λ r. cond (is_blank_text line) (next_line s) (with_step (next_line s) (step_taken s r))) (same line each),
  )

  same_schedule : (input : List ℕ) → AllByRecursion Q (lines_of input) → script_text (step_rules denotes) line_limit start_schedule input ≡ script_text (step_rules others) line_limit start_schedule input
  same_schedule input each =
      let lines = lines_of input in
      let read = take_while (is_short line_limit) lines in
      ap (λ text. text ++ cond (list_all (is_short line_limit) lines) (last_lines (after_lines (step_rules denotes) start_schedule lines)) [])
      (same_answers (step_rules denotes) (step_rules others) Q same_step start_schedule read (each-take_while Q (is_short line_limit) lines each))
      ∙ ap (λ s. answers_to (step_rules others) start_schedule read ++ cond (list_all (is_short line_limit) lines) (last_lines s) [])
      (same_left (step_rules denotes) (step_rules others) Q same_step start_schedule lines each)

-- Lines with equal batches have equal steps.
begin_of_equal_batches : (batch other : List ℕ → Result (List Command) LineError) (text : List ℕ) → (is_blank_text (after_word text) ≡ false → batch (after_word text) ≡ other (after_word text)) → begin_of batch text ≡ begin_of other text
begin_of_equal_batches batch other text same =
    let begins_match : Result (List Command) LineError → Result BatchStep LineError = λ r. client_by (word_of text) >>= (λ c. r >>= (λ commands. Ok (Begin c commands))) in
    let step : (b : Bool) → is_blank_text (after_word text) ≡ b → cond b (Err WrongCount) (begins_match (batch (after_word text))) ≡ cond b (Err WrongCount) (begins_match (other (after_word text))) =
    λ b. elim b as (λ v. is_blank_text (after_word text) ≡ v → cond v (Err WrongCount) (begins_match (batch (after_word text))) ≡ cond v (Err WrongCount) (begins_match (other (after_word text)))) [
      | true ↦ λ is. refl
      | false ↦ λ is. ap begins_match (same is)
    ] in
    step (is_blank_text (after_word text)) refl

step_of_equal_batches : (batch other : List ℕ → Result (List Command) LineError) (line : List ℕ) → (is_blank_text (after_word (after_word line)) ≡ false → batch (after_word (after_word line)) ≡ other (after_word (after_word line))) → step_with_batches batch line ≡ step_with_batches other line
step_of_equal_batches batch other line same =
    ap (λ r. cond (bytes_eq (word_of line) (codes "begin")) r (other_step (word_of line) (after_word line))) (begin_of_equal_batches batch other (after_word line) same)

pub schedules_of_single_commands : SchedulesOfSingleCommands
schedules_of_single_commands input none =
    same_schedule step_of_line (step_with_batches one_command) (λ l. list_any is_semicolon l ≡ false)
    (λ line line_none. step_of_equal_batches (batch_of command_of) one_command line (one_alike (after_word (after_word line)) (none_after is_semicolon (after_word line) (none_after is_semicolon line line_none).1).1))
    input (none_in_lines is_semicolon input none)
  where
    one_alike : (text : List ℕ) → list_any is_semicolon text ≡ false → is_blank_text text ≡ false → batch_of command_of text ≡ one_command text
    one_alike text none some = batch-single text none some

pub schedules_without_order : SchedulesWithoutOrder
schedules_without_order input none =
    same_schedule step_of_line (step_with_batches (batch_of (command_by plain_operand_of))) (λ l. list_any is_at_sign l ≡ false)
    (λ line line_none. step_of_equal_batches (batch_of command_of) (batch_of (command_by plain_operand_of)) line (λ some. batch_plain (after_word (after_word line)) (none_after is_at_sign (after_word line) (none_after is_at_sign line line_none).1).1))
    input (none_in_lines is_at_sign input none)
