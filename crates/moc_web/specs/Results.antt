-- The result of a job, and the buffer that it fills.
use Rattle.std.specs.Prelude.{◌≡◌, ◌⊎◌, ◌<◌, ℕ, List, length, take, drop, Option, None, Some, Result, Ok, Err, String}
use Rattle.std.specs.Prelude.{string_bytes, Vec}
use Rattle.std.specs.declared.alloc.Global.{Global}
use Rattle.moc_conversion.specs.Errors.{input_error_text}
use Rattle.moc_conversion.specs.declared.error.InputError.{InputError}
use Rattle.moc_web.specs.declared.job_result.JobResult.{JobResult}

-- a result with a status and a length
abbrev pub job_result : ℕ → ℕ → JobResult
job_result status length = record { status = status; length = length }

-- the status of an output
abbrev pub done : ℕ
done = 0

-- the status of the report of an error
abbrev pub invalid : ℕ
invalid = 1

-- the status of a buffer that is too short
abbrev pub buffer_too_short : ℕ
buffer_too_short = 2

-- the status for an invalid number
abbrev pub bad_number : ℕ
bad_number = 3

-- the status if no memory is left for the report of an error
abbrev pub out_of_memory : ℕ
out_of_memory = 4

-- the buffer is unchanged, and the result has this status and the length 0
abbrev pub HasNoOutput : ℕ → List ℕ → List ℕ → JobResult → Type 0
HasNoOutput status old new result = (new ≡ old) × (result ≡ job_result status 0)

-- An output is at the front of the buffer, and the rest of the buffer is unchanged. The result has this status and the
-- length of the output. Otherwise the buffer is too short and unchanged, and the result has the length that the output
-- needs.
abbrev pub Fills : ℕ → List ℕ → List ℕ → List ℕ → JobResult → Type 0
Fills status output old new result =
    ((take (length output) new ≡ output) × (drop (length output) new ≡ drop (length output) old)
    × (result ≡ job_result status (length output)))
    ⊎ ((length old < length output) × (new ≡ old) × (result ≡ job_result buffer_too_short (length output)))

-- the output is the report of an error; or no memory is left for the report
abbrev pub Reports : List ℕ → List ℕ → List ℕ → JobResult → Type 0
Reports report old new result = Fills invalid report old new result ⊎ HasNoOutput out_of_memory old new result

-- the output is this report, if there is one; without one, no memory is left
abbrev pub IsReported : {E : Type 0} → Result (Vec ℕ Global) E → List ℕ → List ℕ → JobResult → Type 0
IsReported (Ok report) old new result = Fills invalid report.items old new result
IsReported (Err _) old new result = HasNoOutput out_of_memory old new result

-- the output is this text, or the report of this error
abbrev pub Finishes : Result (String Global) InputError → List ℕ → List ℕ → JobResult → Type 0
Finishes (Ok text) old new result = Fills done (string_bytes text) old new result
Finishes (Err e) old new result = Reports (input_error_text e) old new result

-- the output is such a text, or the report of such an error
abbrev pub Outputs : (List ℕ → Type 0) → (InputError → Type 0) → List ℕ → List ℕ → JobResult → Type 0
Outputs IsOutput IsError old new result =
    ((text : List ℕ) × IsOutput text × Fills done text old new result)
    ⊎ ((e : InputError) × IsError e × Reports (input_error_text e) old new result)

-- the result is this one for what a number means; an invalid number has no output
abbrev pub ForMeaning : {X : Type 0} → Option X → (X → List ℕ → List ℕ → JobResult → Type 0)
    → List ℕ → List ℕ → JobResult → Type 0
ForMeaning (Some x) IsResult old new result = IsResult x old new result
ForMeaning None IsResult old new result = HasNoOutput bad_number old new result
