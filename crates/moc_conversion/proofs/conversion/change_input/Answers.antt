use Rattle.std.proofs.Common.{ℕ, List, subst}
use Rattle.std.specs.Prelude.{string_bytes}
use Rattle.std.proofs.lemmas.Result.{IfErr-weaker, IfOk-weaker}
use Rattle.moc_conversion.specs.Conversion.{FailsText, IsChange, MakesFromText, input_limit}
use Rattle.moc_conversion.proofs.Checks.{made_from_input, of_input}
use Rattle.moc_conversion.proofs.conversion.change_input.Goals as goal

pub returns-clause-changes : goal.returns-clause-changes
returns-clause-changes g c = IfOk-weaker c.change_text.result _ _ (λ t changes.
    made_from_input input_limit (IsChange c.args.change) c.args.choice _ _ c.in_ok-text.text.items (string_bytes t) c.in_ok-text.ensures.whole
    (subst (λ (bytes : List ℕ). MakesFromText (IsChange c.args.change) c.args.choice bytes (string_bytes t)) c.deref.ensures.value changes)) c.change_text.ensures.changes

pub returns-clause-error : goal.returns-clause-error
returns-clause-error g c = IfErr-weaker c.change_text.result _ _ (λ e fails.
    of_input c.args.choice _ _ c.in_ok-text.text.items e c.in_ok-text.ensures.whole
    (subst (λ (bytes : List ℕ). FailsText c.args.choice bytes e) c.deref.ensures.value fails)) c.change_text.ensures.error
