-- The exit status of a result, and what is reported for it.
use Rattle.std.proofs.Common.{◌≡◌, ◌⊎◌, ◌||◌, inl, inr, Bool, ℕ, List, Result, Ok, Err, refl, sym, ap, subst, ◌∙◌, arith}
use Rattle.std.specs.Prelude.{IfErr, IfOk, IsTrue}
use Rattle.moc_devices.specs.Devices.{SourceState, SinkState, Accepts, AcceptsNone}
use Rattle.moc_lines.specs.declared.run_error.RunError.TheVariants as run
use Rattle.moc_conversion.specs.Notes.{no_notes, notes_text}
use Rattle.moc_conversion.specs.declared.error.InputError.{InputError}
use Rattle.moc_conversion.specs.declared.notes.Notes.{Notes}
use Rattle.moc_conversion.specs.declared.error.InputError.TheVariants as input
use Rattle.clap.specs.Words.{Text}
use Rattle.clap.specs.declared.parser.matches.ArgMatches.{ArgMatches}
use Rattle.moc_cli.specs.Statuses.{code_of, error_text, status_of, status_of_input}
use Rattle.moc_cli.specs.Endings.{AcceptsSome, RequestHelp, BlamesFailed, CanEndWith, ReportsUsageError, RunsOutOfMemory, ReportsErrorOf, Succeeds, WritesUnlessFailed}
use Rattle.moc_cli.specs.Private.Ending.{status_of_result}
use Rattle.moc_cli.specs.Private.Matches.{AreParsedAs, MatchedEnd}
use Rattle.moc_cli.specs.Private.Writing.{IsSent}
use Rattle.moc_cli.proofs.Requests.{arguments_are_matched, arguments_end}
use Rattle.moc_cli.proofs.Writing.{empty_text_accepted}
use Rattle.moc_cli.specs.declared.status.ProgramError.{ProgramError}
use Rattle.moc_cli.specs.declared.status.ProgramError.TheVariants.{Input, Number, Lines, Write, Memory}
use Rattle.moc_cli.specs.declared.status.Status.{Status}
use Rattle.moc_cli.specs.declared.status.Status.TheVariants.{Success, Invalid, BadCommandLine, Failed}

bad_command_line_if_2 : (s : Status) → code_of s ≡ 2 → s ≡ BadCommandLine
bad_command_line_if_2 Success e = absurd (omega (arith, e))
bad_command_line_if_2 Invalid e = absurd (omega (arith, e))
bad_command_line_if_2 BadCommandLine e = refl
bad_command_line_if_2 Failed e = absurd (omega (arith, e))

-- if the number of s is 2, its other name t is that of an invalid command line
pub is_bad_command_line : (s t : Status) (r : ℕ) → s ≡ t → r ≡ code_of s → r ≡ 2 → t ≡ BadCommandLine
is_bad_command_line s t r same number two = bad_command_line_if_2 t (ap code_of (sym same) ∙ sym number ∙ two)

-- an error has the status `Invalid` or `Failed`
IsErrorStatus : Status → Type 0
IsErrorStatus s = (s ≡ Invalid) ⊎ (s ≡ Failed)

of_input : (e : InputError) → IsErrorStatus (status_of_input e)
unfolding IsErrorStatus
of_input (input.Text number diagnostic) = inl refl
of_input (input.ConvertedText error) = inl refl
of_input (input.TooLong number) = inl refl
of_input input.Read = inr refl
of_input input.Memory = inr refl

of_error : (error : ProgramError) → IsErrorStatus (status_of error)
unfolding IsErrorStatus
of_error (Input e) = of_input e
of_error (Number e) = inl refl
of_error (Lines run.Read) = inr refl
of_error (Lines run.Write) = inr refl
of_error (Lines (run.LineTooLong line)) = inl refl
of_error (Lines (run.Memory line)) = inr refl
of_error (Lines run.Spawn) = inr refl
of_error Write = inr refl
of_error Memory = inr refl

not_bad_command_line : (s : Status) → IsErrorStatus s → s ≡ BadCommandLine → ⊥
unfolding IsErrorStatus
not_bad_command_line s (inl invalid) e = cc
not_bad_command_line s (inr failed) e = cc

not_success : (s : Status) → IsErrorStatus s → s ≡ Success → ⊥
unfolding IsErrorStatus
not_success s (inl invalid) e = cc
not_success s (inr failed) e = cc

success_if_0 : (s : Status) → code_of s ≡ 0 → s ≡ Success
success_if_0 Success e = refl
success_if_0 Invalid e = absurd (omega (arith, e))
success_if_0 BadCommandLine e = absurd (omega (arith, e))
success_if_0 Failed e = absurd (omega (arith, e))

-- if the number of s is 0, its other name t is that of success
pub is_success : (s t : Status) (r : ℕ) → s ≡ t → r ≡ code_of s → r ≡ 0 → t ≡ Success
is_success s t r same number zero = success_if_0 t (ap code_of (sym same) ∙ sym number ∙ zero)

-- an error that ends the program is reported
pub reported_by : (result : Result Notes ProgramError) (status : ℕ) (is : ProgramError → Type 0) (failed : Bool) (sink sink' : SinkState) → status ≡ code_of (status_of_result result)
    → IfErr result (λ c. WritesUnlessFailed failed (error_text c) sink sink') → IfErr result is → (status ≡ 1) ⊎ (status ≡ 3) → ReportsErrorOf status is failed sink sink'
reported_by (Ok u) status is failed sink sink' number reported why (inl one) = absurd (omega (arith, number, one))
reported_by (Ok u) status is failed sink sink' number reported why (inr three) = absurd (omega (arith, number, three))
reported_by (Err c) status is failed sink sink' number reported why some = (c, sym number, why, reported)

-- the same for devices with other names
module _ {I O : Type 0} (reading : I → SourceState) (writing : O → SinkState) (i i' : I) (o o' : O) (arguments : List Text) (m : ArgMatches) (source : SourceState) (sink : SinkState)
    (read : AreParsedAs arguments m) (same_i : i' ≡ i) (same_o : o' ≡ o) where
  pub done_by : {F : Type 0} (marked : Bool) (mark : F → Bool) (reported_on : F → SinkState) (f f' : F) (old : SinkState) → f' ≡ f → (result : Result Notes ProgramError)
      → MatchedEnd m source (reading i) sink (writing o) result → IfOk result (λ n. WritesUnlessFailed (marked || mark f) (notes_text n) old (reported_on f)) → status_of_result result ≡ Success
      → Succeeds arguments source (reading i') sink (writing o') (marked || mark f') old (reported_on f')
  done_by {F} marked mark reported_on f f' old same (Ok notes) ends noted e =
      let matched = arguments_are_matched arguments m source (reading i) sink (writing o) notes read ends in
      subst (λ (x : I). Succeeds arguments source (reading x) sink (writing o') (marked || mark f') old (reported_on f')) (sym same_i)
      (subst (λ (y : O). Succeeds arguments source (reading i) sink (writing y) (marked || mark f') old (reported_on f')) (sym same_o)
      (subst (λ (z : F). Succeeds arguments source (reading i) sink (writing o) (marked || mark z) old (reported_on z)) (sym same)
      (matched.0, notes, matched.1, matched.2, noted)))
  done_by {F} marked mark reported_on f f' old same (Err error) ends noted e = absurd (not_success (status_of error) (of_error error) e)

  pub fails_by : (marked : I → Bool) (marked_out : O → Bool) (result : Result Notes ProgramError) → MatchedEnd m source (reading i) sink (writing o) result
      → IfErr result (λ f. BlamesFailed (marked i) (marked_out o) f)
      → IfErr result (λ f. BlamesFailed (marked i') (marked_out o') f × CanEndWith arguments source (reading i') sink (writing o') f)
  fails_by marked marked_out (Ok u) ends blames = tt
  fails_by marked marked_out (Err error) ends blames =
      subst (λ (x : I). BlamesFailed (marked x) (marked_out o') error × CanEndWith arguments source (reading x) sink (writing o') error) (sym same_i)
      (subst (λ (y : O). BlamesFailed (marked i) (marked_out y) error × CanEndWith arguments source (reading i) sink (writing y) error) (sym same_o)
      (blames, arguments_end arguments m source (reading i) sink (writing o) error read ends))

-- the same for standard error with another name: whether it was marked, and what it accepted
module _ {F : Type 0} (marked : Bool) (mark : F → Bool) (writing : F → SinkState) (f f' : F) (old : SinkState) (same : f' ≡ f) where
  pub reported_result : (result : Result Notes ProgramError) (status : ℕ) (is : ProgramError → Type 0)
      → IfErr result (λ c. WritesUnlessFailed (marked || mark f) (error_text c) old (writing f)) → status ≡ code_of (status_of_result result) → IfErr result is
      → (status ≡ 1) ⊎ (status ≡ 3) → ReportsErrorOf status is (marked || mark f') old (writing f')
  reported_result result status is reported number why some =
      subst (λ (x : F). ReportsErrorOf status is (marked || mark x) old (writing x)) (sym same) (reported_by result status is (marked || mark f) old (writing f) number reported why some)

  pub explained_by : (arguments : List Text) → ReportsUsageError arguments (marked || mark f) old (writing f) → ReportsUsageError arguments (marked || mark f') old (writing f')
  explained_by arguments explains = subst (λ (x : F). ReportsUsageError arguments (marked || mark x) old (writing x)) (sym same) explains

  pub memory_by : {O : Type 0} (output : O → SinkState) (o o' : O) (sink : SinkState) → o' ≡ o → RunsOutOfMemory sink (output o) (marked || mark f) old (writing f)
      → RunsOutOfMemory sink (output o') (marked || mark f') old (writing f')
  memory_by {O} output o o' sink same_o ends =
      subst (λ (y : O). RunsOutOfMemory sink (output y) (marked || mark f') old (writing f')) (sym same_o)
      (subst (λ (x : F). RunsOutOfMemory sink (output o) (marked || mark x) old (writing x)) (sym same) ends)

-- nothing is written to standard error on success without notes
pub silent_without_notes : (text : List ℕ) (result : Result Notes ProgramError) (failed : Bool) (output output' sink sink' : SinkState) → IsSent text no_notes output output' result
    → IfOk result (λ n. WritesUnlessFailed failed (notes_text n) sink sink') → status_of_result result ≡ Success → AcceptsNone sink sink'
silent_without_notes text (Ok notes) failed output output' sink sink' sent noted done =
    empty_text_accepted failed sink sink' (subst (λ n. WritesUnlessFailed failed (notes_text n) sink sink') sent.1 noted)
silent_without_notes text (Err error) failed output output' sink sink' sent noted done = absurd (not_success (status_of error) (of_error error) done)

-- the errors that are reported if there are no matches
abbrev IsHelpFailure : Type 0 → Type 0 → Type 0 → Type 0 → ProgramError → Type 0
IsHelpFailure unchanged failed help front error = ((error ≡ Memory) × unchanged) ⊎ ((error ≡ Write) × failed × help × front)

-- a prefix of some text was accepted
abbrev AcceptsPrefix : SinkState → SinkState → Type 0
AcceptsPrefix sink sink' = (front : List ℕ) × Accepts sink sink' front

reported_without_matches : (input output : Bool) (arguments : List Text) (source source' : SourceState) (sink sink' : SinkState) (help : Type 0) (error : ProgramError) → (help → RequestHelp arguments)
    → IsHelpFailure (AcceptsNone sink sink') (IsTrue output) help (AcceptsPrefix sink sink') error → BlamesFailed input output error × CanEndWith arguments source source' sink sink' error
reported_without_matches input output arguments source source' sink sink' help error selects (inl (memory, unchanged)) =
    (subst (λ f. BlamesFailed input output f) (sym memory) tt, inl (memory, unchanged))
reported_without_matches input output arguments source source' sink sink' help error selects (inr (write, failed, helped, front)) =
    (subst (λ f. BlamesFailed input output f) (sym write) failed, inr (inl (selects helped, write, front)))

pub reported_status : {F O : Type 0} (before : Bool) (mark : F → Bool) (reported_on : F → SinkState) (marked : O → Bool) (writing : O → SinkState) (f f' : F) (o o' : O)
    (input : Bool) (arguments : List Text) (source source' : SourceState) (sink old : SinkState) (help : Type 0) (s : Status) (status : ℕ)
    → ((code_of s ≡ 1) ⊎ (code_of s ≡ 3)
    → ReportsErrorOf (code_of s) (λ c. IsHelpFailure (AcceptsNone sink (writing o)) (IsTrue (marked o)) help (AcceptsPrefix sink (writing o)) c) (before || mark f) old (reported_on f))
    → (help → RequestHelp arguments) → f' ≡ f → o' ≡ o → status ≡ code_of s → (status ≡ 1) ⊎ (status ≡ 3)
    → ReportsErrorOf status (λ c. BlamesFailed input (marked o') c × CanEndWith arguments source source' sink (writing o') c) (before || mark f') old (reported_on f')
reported_status {F} {O} before mark reported_on marked writing f f' o o' input arguments source source' sink old help s status reported selects same same_o number some =
    let here = reported (subst (λ (n : ℕ). (n ≡ 1) ⊎ (n ≡ 3)) number some) in
    let why = reported_without_matches input (marked o') arguments source source' sink (writing o') help here.0 selects
    (subst (λ (y : O). IsHelpFailure (AcceptsNone sink (writing y)) (IsTrue (marked y)) help (AcceptsPrefix sink (writing y)) here.0) (sym same_o) here.2) in
    (here.0, here.1 ∙ sym number, why, subst (λ (x : F). WritesUnlessFailed (before || mark x) (error_text here.0) old (reported_on x)) (sym same) here.3)

pub result_not_bad_command_line : (result : Result Notes ProgramError) → status_of_result result ≡ BadCommandLine → ⊥
result_not_bad_command_line (Ok u) e = cc
result_not_bad_command_line (Err error) e = not_bad_command_line (status_of error) (of_error error) e

-- the content of a sink with another name
pub accepts_none_by : {O : Type 0} (writing : O → SinkState) (o o' : O) (sink : SinkState) → o' ≡ o → AcceptsNone sink (writing o) → AcceptsNone sink (writing o')
accepts_none_by writing o o' sink same unchanged = subst (λ y. AcceptsNone sink (writing y)) (sym same) unchanged

pub accepts_some_by : {O : Type 0} (writing : O → SinkState) (o o' : O) (sink : SinkState) → o' ≡ o → AcceptsSome sink (writing o) → AcceptsSome sink (writing o')
accepts_some_by writing o o' sink same some = subst (λ y. AcceptsSome sink (writing y)) (sym same) some
