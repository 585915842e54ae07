-- The ways in which a run ends.
use Rattle.std.proofs.Common.{◌∙◌, sym}
use Rattle.std.proofs.lemmas.Bool.{false≢true}
use Rattle.moc_devices.specs.Lemmas.{AcceptsNone-refl}
use Rattle.moc_lines.proofs.Outcomes.{at_ok}
use Rattle.moc_lines.proofs.Endings.{Runs-ended, Runs-failed, Runs-sent}
use Rattle.moc_lines.proofs.runner.Runner.run.Goals as goal

pub returns-then-is_write-clause-runs : goal.returns-then-is_write-clause-runs
returns-then-is_write-clause-runs g c = Runs-ended _ _ _ _ _ _ _ _ c.answer_lines-outcome.result (c.is_write.ensures.0 c.if-is_write.true) c.answer_lines-outcome.ensures.ended

pub returns-then-is_err-clause-runs : goal.returns-then-is_err-clause-runs
returns-then-is_err-clause-runs g c =
    Runs-failed _ _ _ _ _ _ _ _ _ _ _ c.answer_lines-outcome.result c.write_pending.result (λ is. false≢true (sym c.if-is_write.false ∙ c.is_write.ensures.1 is))
    c.answer_lines-outcome.ensures.ended c.write_pending.ensures.sends (AcceptsNone-refl _)

pub returns-then-is_err-2-clause-runs : goal.returns-then-is_err-2-clause-runs
returns-then-is_err-2-clause-runs g c =
    Runs-failed _ _ _ _ _ _ _ _ _ _ _ c.answer_lines-outcome.result c.write_pending.result (λ is. false≢true (sym c.if-is_write.false ∙ c.is_write.ensures.1 is))
    c.answer_lines-outcome.ensures.ended c.write_pending.ensures.sends c.flush_if.ensures.bytes

pub returns-clause-runs : goal.returns-clause-runs
returns-clause-runs g c =
    Runs-sent _ _ _ _ _ _ _ _ _ _ _ c.answer_lines-outcome.result c.write_pending.result (λ is. false≢true (sym c.if-is_write.false ∙ c.is_write.ensures.1 is))
    c.answer_lines-outcome.ensures.ended c.write_pending.ensures.sends (sym c.is_err.ensures.value ∙ c.if-is_err.false) (at_ok c.write_pending.result (sym c.is_err.ensures.value ∙ c.if-is_err.false) c.write_pending.ensures.all) c.flush_if.ensures.bytes
