-- The output of a job for the result of its function.
use Rattle.std.proofs.Common.{ℕ, List, Result, Ok, Err, inl, inr}
use Rattle.std.specs.Prelude.{IfErr, IfOk, String, string_bytes}
use Rattle.std.specs.declared.alloc.Global.{Global}
use Rattle.moc_conversion.specs.declared.error.InputError.{InputError}
use Rattle.moc_web.specs.Results.{Finishes, Outputs}
use Rattle.moc_web.specs.declared.job_result.JobResult.{JobResult}

-- a text or an error with a property is the output of a job that finishes with it
pub outputs : (IsOutput : List ℕ → Type 0) (IsError : InputError → Type 0) (made : Result (String Global) InputError)
    (old new : List ℕ) (result : JobResult) → IfOk made (λ t. IsOutput (string_bytes t)) → IfErr made IsError
    → Finishes made old new result → Outputs IsOutput IsError old new result
outputs IsOutput IsError (Ok text) old new result is fails finishes = inl (string_bytes text, is, finishes)
outputs IsOutput IsError (Err e) old new result is fails finishes = inr (e, fails, finishes)
