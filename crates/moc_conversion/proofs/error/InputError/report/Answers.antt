-- The line of the name, then the other lines.
use Rattle.std.proofs.Common.{ap, refl}
use Rattle.moc_text.specs.Names.{fault_report}
use Rattle.moc_conversion.specs.Errors.{name_of_input, position_text}
use Rattle.moc_conversion.proofs.Sending.{writes_as, writes_first, writes_next}
use Rattle.moc_conversion.proofs.error.InputError.report.Goals as goal

pub returns-in_err-report_error : goal.returns-in_err-report_error
returns-in_err-report_error g c =
    writes_first _ _ (fault_report (name_of_input c.args.self.now)) (position_text c.args.self.now) _ _ _ _
    (writes_as _ _ _ _ _ _ _ (ap fault_report c.name.ensures) c.in_err-report_error.ensures) refl c.from_residual.ensures.0

pub returns : goal.returns
returns g c =
    writes_next _ _ (fault_report (name_of_input c.args.self.now)) (position_text c.args.self.now) _ _ _ _ _
    (writes_as _ _ _ _ _ _ _ (ap fault_report c.name.ensures) c.in_ok-report_error.ensures) c.report_position.ensures
