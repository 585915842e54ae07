-- The steps of a schedule's lines are local, and lead to the world after them.
use Rattle.std.proofs.Common.{◌≡◌, ℕ, suc, ◌<◌, ◌≤◌, Bool, true, false, cond, ltb, List, [], ◌∷◌, length, Option}
use Rattle.std.proofs.Common.{None, Some, Result, Ok, Err, codes, refl, sym, ap, subst, ◌∙◌, arith, length-append, eqb}
use Rattle.std.specs.Result.{IfOk, result_map_both}
use Rattle.std.specs.Option.{ok_or, option_map_or}
use Rattle.std.specs.List.{cons_option}
use Rattle.std.specs.Str.{bytes_eq}
use Rattle.std.specs.FinSet as set
use Rattle.std.proofs.lemmas.Bool.Decides.{nat_tests}
use Rattle.std.proofs.lemmas.List.Splits.{length-slice_split}
use Rattle.moc_sphere.specs.CellNumber.{cell_count, cell_number}
use Rattle.moc_lists.specs.RangeList.{NumberSet}
use Rattle.moc_ranges.specs.Operations.{pixels, IsWithin}
use Rattle.moc_parts.specs.Batches.{batches, AreCommands}
use Rattle.moc_parts.specs.Commands.{IsOperand, IsCommand}
use Rattle.moc_parts.specs.Objects.{IsLocal}
use Rattle.moc_parts.specs.Theorems.{BatchesAreLocal}
use Rattle.moc_parts.specs.declared.command.Operand.{Operand}
use Rattle.moc_parts.specs.declared.command.Command.{Command}
use Rattle.moc_parts.specs.declared.command.Command.TheVariants.{Near}
use Rattle.moc_text.specs.declared.ascii.error.TextError.{TextError}
use Rattle.moc_text.specs.Reading.{reading_of}
use Rattle.moc_steps.specs.Machine.{Locks, ArePermitted, AreLocal, locks_after, refusal, World, world_after_all, world_after}
use Rattle.moc_steps.specs.Machine.Step.{Begin, Take, Edit, Give, Quit, End}
use Rattle.std.specs.Prelude.{fold}
use Rattle.moc_steps.specs.Orders.{OperationState, new_operation, with_open, operations_after}
use Rattle.moc_steps.specs.Theorems.{AreValidSteps, StepsHaveOneOrder}
use Rattle.moc_steps.specs.declared.error.StepError.{StepError}
use Rattle.moc_parts.specs.declared.reply.Reply.{Reply}
use Rattle.moc_lines.specs.Language.{is_blank_text, word_of, after_word, decimal_value, ◌>>=◌}
use Rattle.moc_lines.specs.Language.{coverage_of, order_of, plain_operand_of, ordered_operand_of, operand_by}
use Rattle.moc_lines.specs.Language.{operand_of, command_named, command_with, degrade_of, near_of, only_field}
use Rattle.moc_lines.specs.Language.{two_numbers, command_of, piece_command, commands_of, batch_of}
use Rattle.moc_text.specs.Lines.{is_semicolon, pieces_of}
use Rattle.moc_script.specs.Schedules.{BatchStep, client_by, only_client, only_client_and_part, step_by}
use Rattle.moc_script.specs.Schedules.{step_at, other_step, begin_by, begin_of, step_of_line, Schedule, start_schedule}
use Rattle.moc_script.specs.Schedules.{next_line, begin_lines_after, with_step, schedule_rules, step_taken}
use Rattle.moc_script.specs.Schedules.{steps_taken}
use Rattle.moc_lines.specs.Runs.{after_lines}
use Rattle.moc_script.proofs.Single.{first_then}
use Rattle.moc_script.specs.Theorems.{SchedulesHaveOneOrder}
use Rattle.moc_lines.specs.declared.error.LineError.{LineError}
use Rattle.moc_lines.specs.declared.error.LineError.TheVariants.{WrongCount, BadNumber, OrderTooLarge, CellTooLarge}
use Rattle.moc_lines.specs.declared.error.LineError.TheVariants.{Coverage, EmptyCommand, TooManyCommands}
use Rattle.moc_text.specs.Lemmas.{empty_within, read_within}

-- ---- what holds if something was parsed

ok_if : {A F : Type 0} (P : A → Type 0) (b : Bool) (x y : Result A F) → IfOk x P → IfOk y P → IfOk (cond b x y) P
ok_if P true x y hx hy = hx
ok_if P false x y hx hy = hy

ok_then : {A B F : Type 0} (Q : A → Type 0) (P : B → Type 0) (r : Result A F) (f : A → Result B F) → IfOk r Q → ((a : A) → Q a → IfOk (f a) P) → IfOk (r >>= f) P
ok_then Q P (Ok a) f h next = next a h
ok_then Q P (Err e) f h next = tt

-- something
abbrev Any : {A : Type 0} → A → Type 0
Any {A} a = Unit {0}

ok_any : {A F : Type 0} (r : Result A F) → IfOk r Any
ok_any (Ok a) = tt
ok_any (Err e) = tt

-- ---- the command of a text is one of sets of pixels, orders and cells

coverage_within : (text : List ℕ) → IfOk (coverage_of text) (λ a. IsWithin a pixels)
coverage_within text = found (reading_of text) (read_within text)
  where
    found : (r : Result (NumberSet × Option ℕ) TextError) → IfOk r (λ r. IsWithin r.0 pixels) → IfOk (result_map_both (λ read. read.0) (λ e. Coverage e) r) (λ a. IsWithin a pixels)
    found (Ok r) h = h
    found (Err e) h = tt

order_small : (field : List ℕ) → IfOk (order_of field) (λ order. order ≤ 29)
order_small field = ok_then Any _ (ok_or (decimal_value field) BadNumber) _ (ok_any (ok_or (decimal_value field) BadNumber)) (λ order _. small order (ltb 29 order) refl)
  where
    small : (order : ℕ) (b : Bool) → ltb 29 order ≡ b → IfOk (cond b (Err OrderTooLarge) (Ok order)) (λ order. order ≤ 29)
    small order true is = tt
    small order false is = grind (arith, nat_tests)

plain_proper : (text : List ℕ) → IfOk (plain_operand_of text) IsOperand
plain_proper text = ok_then _ IsOperand (coverage_of text) _ (coverage_within text) (λ a within. (within, tt))

ordered_proper : (field text : List ℕ) → IfOk (ordered_operand_of field text) IsOperand
ordered_proper field text =
    ok_then _ IsOperand (order_of field) _ (order_small field) (λ order small.
    ok_then _ IsOperand (coverage_of text) _ (coverage_within text) (λ a within. (within, small)))

operand_proper : (word text : List ℕ) → IfOk (operand_by word text) IsOperand
operand_proper [] text = plain_proper text
operand_proper (b ∷ field) text = ok_if IsOperand (eqb b 64) _ _ (ordered_proper field (after_word text)) (plain_proper text)

-- a command of each operand
abbrev Makes : (Operand → Command) → Type 0
Makes f = (x : Operand) → IsOperand x → IsCommand (f x)

named_proper : (word : List ℕ) → IfOk (command_named word) Makes
named_proper word =
    ok_if Makes (bytes_eq word (codes "add")) _ _ (λ x h. h) (
    ok_if Makes (bytes_eq word (codes "remove")) _ _ (λ x h. h) (
    ok_if Makes (bytes_eq word (codes "keep")) _ _ (λ x h. h) (
    ok_if Makes (bytes_eq word (codes "claim")) _ _ (λ x h. h) (
    ok_if Makes (bytes_eq word (codes "count")) _ _ (λ x h. h) (
    ok_if Makes (bytes_eq word (codes "read")) _ _ (λ x h. h) tt)))))

with_proper : (word text : List ℕ) → IfOk (command_with operand_of word text) IsCommand
with_proper word text =
    ok_then Makes IsCommand (command_named word) _ (named_proper word) (λ f makes.
    ok_then IsOperand IsCommand (operand_of text) _ (operand_proper (word_of text) text) (λ x is. makes x is))

degrade_proper : (text : List ℕ) → IfOk (degrade_of text) IsCommand
degrade_proper text =
    ok_then Any IsCommand (only_field text) _ (ok_any (only_field text)) (λ field _.
    ok_then _ IsCommand (order_of field) _ (order_small field) (λ order small. small))

-- the command for a cell of an order, if both exist
abbrev near_at : ℕ → ℕ → Result Command LineError
near_at order index = cond (ltb 29 order) (Err OrderTooLarge) (cond (ltb index (cell_count order)) (Ok (Near (cell_number order index))) (Err CellTooLarge))

near_cell : (order index : ℕ) → IfOk (near_at order index) IsCommand
near_cell order index = deep (ltb 29 order) refl
  where
    inside : (b : Bool) → order ≤ 29 → ltb index (cell_count order) ≡ b → IfOk (cond b (Ok (Near (cell_number order index))) (Err CellTooLarge)) IsCommand
    inside true small is = record { order_in_range = small; index_in_range = grind (arith, nat_tests) }
    inside false small is = tt

    deep : (b : Bool) → ltb 29 order ≡ b → IfOk (cond b (Err OrderTooLarge) (cond (ltb index (cell_count order)) (Ok (Near (cell_number order index))) (Err CellTooLarge))) IsCommand
    deep true is = tt
    deep false is = let small : order ≤ 29 = grind (arith, nat_tests) in inside (ltb index (cell_count order)) small refl

near_proper : (text : List ℕ) → IfOk (near_of text) IsCommand
near_proper text =
    ok_then Any IsCommand (two_numbers text) _ (ok_any (two_numbers text)) (λ both _. near_cell both.0 both.1)

command_proper : (piece : List ℕ) → IfOk (command_of piece) IsCommand
command_proper piece =
    let word = word_of piece in
    let text = after_word piece in
    ok_if IsCommand (bytes_eq word (codes "invert")) _ _ (ok_if IsCommand (is_blank_text text) _ _ tt tt) (
    ok_if IsCommand (bytes_eq word (codes "degrade")) _ _ (degrade_proper text) (
    ok_if IsCommand (bytes_eq word (codes "near")) _ _ (near_proper text) (with_proper word text)))

piece_proper : (piece : List ℕ) → IfOk (piece_command command_of piece) IsCommand
piece_proper piece = ok_if IsCommand (is_blank_text piece) (Err EmptyCommand) (command_of piece) tt (command_proper piece)

commands_proper : (pieces : List (List ℕ)) → IfOk (commands_of command_of pieces) AreCommands
commands_proper [] = tt
commands_proper (piece ∷ pieces) = one (piece_command command_of piece) (commands_of command_of pieces) (piece_proper piece) (commands_proper pieces)
  where
    one : (first : Result Command LineError) (later : Result (List Command) LineError) → IfOk first IsCommand → IfOk later AreCommands → IfOk (first_then first later) AreCommands
    one (Err e) later h each = tt
    one (Ok c) (Err e) h each = tt
    one (Ok c) (Ok cs) h each = (h, each)

-- ---- the batch of a line is local

module _ (local : BatchesAreLocal) where
  first_local : (first : Result Command LineError) (later : Result (List Command) LineError) → IfOk first IsCommand → IfOk later AreCommands → IfOk (first_then first later) (IsLocal batches)
  first_local (Err e) later h each = tt
  first_local (Ok c) (Err e) h each = tt
  first_local (Ok c) (Ok cs) h each = local c cs (h, each)

  pieces_local : (pieces : List (List ℕ)) → 0 < length pieces → IfOk (commands_of command_of pieces) (IsLocal batches)
  pieces_local [] some = absurd (omega arith)
  pieces_local (piece ∷ pieces) some = first_local (piece_command command_of piece) (commands_of command_of pieces) (piece_proper piece) (commands_proper pieces)

  batch_local : (line : List ℕ) → IfOk (batch_of command_of line) (IsLocal batches)
  batch_local line =
      ok_if (IsLocal batches) (ltb 16 (length (pieces_of line))) (Err TooManyCommands) (commands_of command_of (pieces_of line)) tt
      (pieces_local (pieces_of line) (omega (arith, length-slice_split is_semicolon line)))

  -- the step alone is local
  abbrev Alone : BatchStep → Type 0
  Alone step = AreLocal batches (step ∷ [])

  begin_local : (text : List ℕ) → IfOk (begin_of (batch_of command_of) text) Alone
  begin_local text =
      let client = client_by (word_of text) in
      let line = after_word text in
      ok_if Alone (is_blank_text line) (Err WrongCount) (begin_by (batch_of command_of) (word_of text) line) tt
      (ok_then Any Alone client _ (ok_any client) (λ c _. ok_then (IsLocal batches) Alone (batch_of command_of line) _ (batch_local line) (λ cs is. (is, tt))))

  by_local : (step : ℕ → BatchStep) (text : List ℕ) → ((c : ℕ) → Alone (step c)) → IfOk (step_by step text) Alone
  by_local step text each = ok_then Any Alone (only_client text) _ (ok_any (only_client text)) (λ c _. each c)

  at_local : (step : ℕ → ℕ → BatchStep) (text : List ℕ) → ((c b : ℕ) → Alone (step c b)) → IfOk (step_at step text) Alone
  at_local step text each = ok_then Any Alone (only_client_and_part text) _ (ok_any (only_client_and_part text)) (λ p _. each p.0 p.1)

  other_local : (word text : List ℕ) → IfOk (other_step word text) Alone
  other_local word text =
      ok_if Alone (bytes_eq word (codes "take")) _ _ (by_local (λ c. Take c) text (λ c. tt)) (
      ok_if Alone (bytes_eq word (codes "edit")) _ _ (at_local (λ c b. Edit c b) text (λ c b. tt)) (
      ok_if Alone (bytes_eq word (codes "give")) _ _ (at_local (λ c b. Give c b) text (λ c b. tt)) (
      ok_if Alone (bytes_eq word (codes "quit")) _ _ (by_local (λ c. Quit c) text (λ c. tt)) (
      ok_if Alone (bytes_eq word (codes "end")) _ _ (by_local (λ c. End c) text (λ c. tt)) tt))))

  step_local : (line : List ℕ) → IfOk (step_of_line line) Alone
  step_local line =
      ok_if Alone (bytes_eq (word_of line) (codes "begin")) (begin_of (batch_of command_of) (after_word line)) (other_step (word_of line) (after_word line))
      (begin_local (after_word line)) (other_local (word_of line) (after_word line))

-- ---- the steps of lines

local_step_appended : (step : BatchStep) (rest : List BatchStep) → AreLocal batches (step ∷ []) → AreLocal batches rest → AreLocal batches (step ∷ rest)
local_step_appended (Begin c op) rest h more = (h.0, more)
local_step_appended (Take c) rest h more = more
local_step_appended (Edit c b) rest h more = more
local_step_appended (Give c b) rest h more = more
local_step_appended (Quit c) rest h more = more
local_step_appended (End c) rest h more = more

same_locks : (w : World (List Command) (List Reply)) (step : BatchStep) → locks_after batches w.locks step ≡ (world_after batches w step).locks
same_locks w (Begin c op) = refl
same_locks w (Take c) = refl
same_locks w (Edit c b) = refl
same_locks w (Give c b) = refl
same_locks w (Quit c) = refl
same_locks w (End c) = refl

length-mark : (c : ℕ) (f : OperationState (List Command) → OperationState (List Command)) (xs : List (OperationState (List Command))) → length (with_open c f xs) ≡ length xs
length-mark c f [] = refl
length-mark c f (x ∷ xs) = ap suc (length-mark c f xs)

begins_after : (begins : List ℕ) (line : ℕ) (xs : List (OperationState (List Command))) (step : BatchStep) → length begins ≡ length xs → length (begin_lines_after begins line step) ≡ length (operations_after xs step)
begins_after begins line xs (Begin c op) same = omega (arith, same, length-append begins (line ∷ []), length-append xs (new_operation c op ∷ []))
begins_after begins line xs (Take c) same = same
begins_after begins line xs (Edit c b) same = same ∙ sym (length-mark c (λ x. record x { committed = true }) xs)
begins_after begins line xs (Give c b) same = same
begins_after begins line xs (Quit c) same = same ∙ sym (length-mark c (λ x. record x { quits = true }) xs)
begins_after begins line xs (End c) same = same ∙ sym (length-mark c (λ x. record x { ended = true }) xs)

-- local and permitted steps lead from one state of a schedule to another
record TakesOn (s : Schedule) (steps : List BatchStep) (s' : Schedule) : Type 0 where
  pub local : AreLocal batches steps
  pub permitted : ArePermitted batches s.world.locks steps
  pub leads : world_after_all batches s.world steps ≡ s'.world
  pub begins_match : (xs : List (OperationState (List Command))) → length s.begins ≡ length xs → length s'.begins ≡ length (fold operations_after xs steps)

-- a line that was read and took no step
passed : (s : Schedule) (rest : List BatchStep) (s' : Schedule) → TakesOn (next_line s) rest s' → TakesOn s rest s'
passed s rest s' h = record { local = h.local; permitted = h.permitted; leads = h.leads; begins_match = h.begins_match }

-- a step, unless it is refused
abbrev step_unless_error : Option StepError → BatchStep → Option BatchStep
step_unless_error o step = option_map_or (λ why. None) o (Some step)

by_step_error : (s : Schedule) (step : BatchStep) (o : Option StepError) → refusal batches s.world.locks step ≡ o → AreLocal batches (step ∷ [])
    → (rest : List BatchStep) (s' : Schedule) → TakesOn (with_step (next_line s) (step_unless_error o step)) rest s' → TakesOn s (cons_option (step_unless_error o step) rest) s'
by_step_error s step (Some why) is alone rest s' h = passed s rest s' h
by_step_error s step None is alone rest s' h = record {
  local = local_step_appended step rest alone h.local;
  permitted = (is, subst (λ (l : Locks (List Command)). ArePermitted batches l rest) (sym (same_locks s.world step)) h.permitted);
  leads = h.leads;
  begins_match = λ xs same. h.begins_match (operations_after xs step) (begins_after s.begins (suc s.lines) xs step same);
}

local_by_reply : (s : Schedule) (r : Result BatchStep LineError) → IfOk r (λ step. AreLocal batches (step ∷ []))
    → (rest : List BatchStep) (s' : Schedule) → TakesOn (with_step (next_line s) (step_taken s r)) rest s' → TakesOn s (cons_option (step_taken s r) rest) s'
local_by_reply s (Ok step) alone rest s' h = by_step_error s step (refusal batches s.world.locks step) refl alone rest s' h
local_by_reply s (Err e) alone rest s' h = passed s rest s' h

by_blanks : (s : Schedule) (b : Bool) (r : Result BatchStep LineError) → IfOk r (λ step. AreLocal batches (step ∷ []))
    → (rest : List BatchStep) (s' : Schedule) → TakesOn (cond b (next_line s) (with_step (next_line s) (step_taken s r))) rest s' → TakesOn s (cons_option (cond b None (step_taken s r)) rest) s'
by_blanks s true r alone rest s' h = passed s rest s' h
by_blanks s false r alone rest s' h = local_by_reply s r alone rest s' h

lines_take_effect : BatchesAreLocal → (s : Schedule) (lines : List (List ℕ)) → TakesOn s (steps_taken s lines) (after_lines schedule_rules s lines)
lines_take_effect local s [] = record { local = tt; permitted = tt; leads = refl; begins_match = λ xs same. same }
lines_take_effect local s (line ∷ lines) =
    by_blanks s (is_blank_text line) (step_of_line line) (step_local local line) (steps_taken (schedule_rules.after s line) lines) _ (lines_take_effect local (schedule_rules.after s line) lines)

-- ---- the theorem

pub schedules_have_one_order : BatchesAreLocal → StepsHaveOneOrder → SchedulesHaveOneOrder
schedules_have_one_order local one_order lines =
    let steps = steps_taken start_schedule lines in
    let takes = lines_take_effect local start_schedule lines in
    let played : AreValidSteps batches set.empty steps = record { within = empty_within; local = takes.local; permitted = takes.permitted } in
    record { played = played; leads = takes.leads; ordered = one_order set.empty steps played; begins_match = takes.begins_match [] refl }
