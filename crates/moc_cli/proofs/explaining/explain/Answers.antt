-- Help has no notes, so nothing is written to standard error.
use Rattle.std.proofs.Common.{◌∙◌, subst, sym}
use Rattle.moc_conversion.specs.declared.notes.Notes.{Notes}
use Rattle.moc_cli.specs.Private.Writing.{IsSent}
use Rattle.moc_cli.proofs.StatusLemmas.{silent_without_notes}
use Rattle.moc_cli.proofs.explaining.explain.Goals as goal

pub returns-clause-silent : goal.returns-clause-silent
returns-clause-silent g c = λ done.
    silent_without_notes c.as_str.result.now c.write_text.result _ _ _ _ _
    (subst (λ (n : Notes). IsSent c.as_str.result.now n (g.W.Sink.writing c.args.output.now) (g.W.Sink.writing c.write_text.new.output) c.write_text.result) c.none.ensures
    c.write_text.ensures.sent)
    c.report_result-2.ensures.noted (sym c.report_result-2.ensures.status ∙ done)
