-- Runs over a source that reports its input.
use Rattle.std.proofs.Common.{◌≡◌, ℕ, List, ◌++◌, Option, Some, None, Result, Ok, Err, refl, sym, ap, ◌∙◌, append-nil, subst}
use Rattle.std.specs.Result.{OnOk}
use Rattle.std.specs.Io.KnownBytes.{Consumes, IsAtEnd}
use Rattle.moc_devices.specs.Devices.{SourceState, SinkState}
use Rattle.moc_lines.specs.Runs.{Rules, Runs, script_text}
use Rattle.moc_lines.specs.declared.run_error.RunError.{RunError}
use Rattle.moc_lines.proofs.Progress.{at_end}

-- the input is what was consumed, and what is left
consumed_and_left : (input consumed : List ℕ) (left : Option (List ℕ)) → Consumes (Some input) left consumed
    → (more : List ℕ) × (left ≡ Some more) × (input ≡ consumed ++ more)
consumed_and_left input consumed None consumes = absurd consumes
consumed_and_left input consumed (Some more) consumes = (more, refl, consumes)

-- at the end all of the input was consumed
all_consumed : (input consumed : List ℕ) (left : Option (List ℕ)) → Consumes (Some input) left consumed → IsAtEnd left
    → consumed ≡ input
all_consumed input consumed left consumes end =
    let parts = consumed_and_left input consumed left consumes in
    sym (parts.2 ∙ ap (λ l. consumed ++ l) (at_end left parts.0 end parts.1) ∙ append-nil consumed)

module _ {S : Type 0} (limit : ℕ) (rules : Rules S) where
  pub is_prefix : (s : S) (input : List ℕ) (a b : SourceState) (w v : SinkState) (result : Result (Unit {0}) RunError)
      → a.left ≡ Some input → (runs : Runs limit rules s a b w v result)
      → (rest : List ℕ) × (script_text rules limit s input ≡ runs.output ++ rest)
  is_prefix s input a b w v result reports runs =
      let consumes = subst (λ (l : Option (List ℕ)). Consumes l b.left runs.input) reports runs.delivered.consumed in
      let parts = consumed_and_left input runs.input b.left consumes in
      let prefix = runs.is_prefix parts.0 (λ end. at_end b.left parts.0 end.none parts.1) in
      (prefix.0, ap (script_text rules limit s) parts.2 ∙ prefix.1)

  pub is_whole : (s : S) (input : List ℕ) (a b : SourceState) (w v : SinkState) (result : Result (Unit {0}) RunError)
      → a.left ≡ Some input → (runs : Runs limit rules s a b w v result) → OnOk result (runs.input ≡ input)
  is_whole s input a b w v (Ok u) reports runs =
      let consumes = subst (λ (l : Option (List ℕ)). Consumes l b.left runs.input) reports runs.delivered.consumed in
      all_consumed input runs.input b.left consumes runs.is_output.0.none
  is_whole s input a b w v (Err e) reports runs = tt
