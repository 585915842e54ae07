-- The label, then the number.
use Rattle.std.proofs.Common.{◌∙◌, Ok, Err, decimal, refl}
use Rattle.moc_conversion.proofs.Sending.{writes_all, writes_as, writes_first, writes_next}
use Rattle.moc_conversion.proofs.reporting.write_number.Goals as goal

pub returns-in_err-write_all : goal.returns-in_err-write_all
returns-in_err-write_all g c =
    writes_first _ _ c.args.label.now (decimal c.args.number) _ _ _ _ (writes_as _ _ _ _ _ _ _ c.as_bytes.ensures.value (writes_all _ _ _ _ _ _ _ (Err _) tt c.in_err-write_all.ensures.sends c.in_err-write_all.ensures.writes)) refl c.from_residual.ensures.0

pub returns : goal.returns
returns g c =
    writes_next _ _ c.args.label.now (decimal c.args.number) _ _ _ _ _ (writes_as _ _ _ _ _ _ _ c.as_bytes.ensures.value (writes_all _ _ _ _ _ _ _ (Ok tt) c.in_ok-write_all.ensures.written c.in_ok-write_all.ensures.sends c.in_ok-write_all.ensures.writes))
    (writes_as _ _ _ _ _ _ _ (c.as_bytes-2.ensures.value ∙ c.format.ensures.text) (writes_all _ _ _ _ _ _ _ c.write_all-2.result c.write_all-2.ensures.written c.write_all-2.ensures.sends c.write_all-2.ensures.writes))
