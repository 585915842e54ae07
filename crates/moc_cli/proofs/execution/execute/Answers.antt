-- An action that reads an input writes the text that was made from it, or fails with its error.
use Rattle.std.proofs.Common.{ℕ, List, subst, sym}
use Rattle.moc_conversion.specs.Combining.{CombinesAll}
use Rattle.moc_cli.specs.Actions.{ActionEnds}
use Rattle.moc_cli.proofs.Writing.{failure_writes, result_writes, sent_writes}
use Rattle.moc_cli.proofs.execution.execute.Goals as goal

pub returns-in-Describe-clause-ends : goal.returns-in-Describe-clause-ends
returns-in-Describe-clause-ends g c =
    subst (λ a. ActionEnds a (g.R.Source.reading c.args.input.now) (g.R.Source.reading c.describe_input.new.input) (g.W.Sink.writing c.args.output.now)
    (g.W.Sink.writing c.write_result-in-Describe.new.output) c.write_result-in-Describe.result) (sym c.in-Describe.is)
    (result_writes _ _ c.describe_input.result _ _ _ c.describe_input.ensures.describes c.describe_input.ensures.error c.write_result-in-Describe.ensures.sent)

pub returns-in-Change-clause-ends : goal.returns-in-Change-clause-ends
returns-in-Change-clause-ends g c =
    subst (λ a. ActionEnds a (g.R.Source.reading c.args.input.now) (g.R.Source.reading c.change_input.new.input) (g.W.Sink.writing c.args.output.now)
    (g.W.Sink.writing c.write_result-in-Change.new.output) c.write_result-in-Change.result) (sym c.in-Change.is)
    (result_writes _ _ c.change_input.result _ _ _ c.change_input.ensures.changes c.change_input.ensures.error c.write_result-in-Change.ensures.sent)

pub returns-in-Convert-clause-ends : goal.returns-in-Convert-clause-ends
returns-in-Convert-clause-ends g c =
    subst (λ a. ActionEnds a (g.R.Source.reading c.args.input.now) (g.R.Source.reading c.convert_input.new.input) (g.W.Sink.writing c.args.output.now)
    (g.W.Sink.writing c.write_result.new.output) c.write_result.result) (sym c.in-Convert.is)
    (result_writes _ _ c.convert_input.result _ _ _ c.convert_input.ensures.converts c.convert_input.ensures.error c.write_result.ensures.sent)

pub returns-in-Draw-clause-ends : goal.returns-in-Draw-clause-ends
returns-in-Draw-clause-ends g c =
    subst (λ a. ActionEnds a (g.R.Source.reading c.args.input.now) (g.R.Source.reading c.draw_input.new.input) (g.W.Sink.writing c.args.output.now)
    (g.W.Sink.writing c.write_result-in-Draw.new.output) c.write_result-in-Draw.result) (sym c.in-Draw.is)
    (result_writes _ _ c.draw_input.result _ _ _ c.draw_input.ensures.draws c.draw_input.ensures.error c.write_result-in-Draw.ensures.sent)

pub returns-in_err-notes-in-Check-clause-ends : goal.returns-in_err-notes-in-Check-clause-ends
returns-in_err-notes-in-Check-clause-ends g c =
    subst (λ a. ActionEnds a (g.R.Source.reading c.args.input.now) (g.R.Source.reading c.check_input.new.input) (g.W.Sink.writing c.args.output.now)
    (g.W.Sink.writing c.args.output.now) c.from_residual.result) (sym c.in-Check.is)
    (failure_writes _ _ _ c.in_err-notes-in-Check.field-0.0 _ c.from_residual.result c.from_residual.ensures.1 c.in_err-notes-in-Check.ensures.error)

pub returns-in_err-text-in-Combine-clause-ends : goal.returns-in_err-text-in-Combine-clause-ends
returns-in_err-text-in-Combine-clause-ends g c =
    subst (λ a. ActionEnds a (g.R.Source.reading c.args.input.now) (g.R.Source.reading c.combine_input.new.input) (g.W.Sink.writing c.args.output.now)
    (g.W.Sink.writing c.args.output.now) c.from_residual-in_err-text-in-Combine.result) (sym c.in-Combine.is)
    (failure_writes _ _ _ c.in_err-text-in-Combine.field-0.0 _ c.from_residual-in_err-text-in-Combine.result c.from_residual-in_err-text-in-Combine.ensures.1
    c.in_err-text-in-Combine.ensures.error)

pub returns-in_ok-text-in-Combine-clause-ends : goal.returns-in_ok-text-in-Combine-clause-ends
returns-in_ok-text-in-Combine-clause-ends g c =
    let source = g.R.Source.reading c.args.input.now in
    let source' = g.R.Source.reading c.combine_input.new.input in
    subst (λ a. ActionEnds a source source' (g.W.Sink.writing c.args.output.now) (g.W.Sink.writing c.write_text-in-Combine.new.output) c.write_text-in-Combine.result) (sym c.in-Combine.is)
    (sent_writes _ _ _ c.as_str.result.now c.in_ok-text-in-Combine.notes _ _ c.write_text-in-Combine.result
    (subst (λ (t : List ℕ). CombinesAll c.in-Combine.operation c.in-Combine.choice source source' t) (sym c.as_str.ensures.value) c.in_ok-text-in-Combine.ensures.combines)
    c.in_ok-text-in-Combine.ensures.notes c.write_text-in-Combine.ensures.sent)
