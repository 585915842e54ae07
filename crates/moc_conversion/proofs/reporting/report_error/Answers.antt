-- The three parts of the line.
use Rattle.std.proofs.Common.{◌++◌, Ok, Err, codes, refl}
use Rattle.moc_conversion.proofs.Sending.{writes_all, writes_as, writes_first, writes_next}
use Rattle.moc_conversion.proofs.reporting.report_error.Goals as goal

pub returns-in_err-write_all : goal.returns-in_err-write_all
returns-in_err-write_all g c =
    writes_first _ _ (codes "fault ") (c.args.name.now ++ codes "\n") _ _ _ _ (writes_all _ _ _ _ _ _ _ (Err _) tt c.in_err-write_all.ensures.sends c.in_err-write_all.ensures.writes) refl c.from_residual.ensures.0

pub returns-in_err-write_all-2 : goal.returns-in_err-write_all-2
returns-in_err-write_all-2 g c =
    writes_first _ _ (codes "fault " ++ c.args.name.now) (codes "\n") _ _ _ _
    (writes_next _ _ (codes "fault ") c.args.name.now _ _ _ _ _ (writes_all _ _ _ _ _ _ _ (Ok tt) c.in_ok-write_all.ensures.written c.in_ok-write_all.ensures.sends c.in_ok-write_all.ensures.writes)
    (writes_as _ _ _ _ _ _ _ c.as_bytes.ensures.value (writes_all _ _ _ _ _ _ _ (Err _) tt c.in_err-write_all-2.ensures.sends c.in_err-write_all-2.ensures.writes))) refl c.from_residual-in_err-write_all-2.ensures.0

pub returns : goal.returns
returns g c =
    writes_next _ _ (codes "fault " ++ c.args.name.now) (codes "\n") _ _ _ _ _
    (writes_next _ _ (codes "fault ") c.args.name.now _ _ _ _ (Ok tt) (writes_all _ _ _ _ _ _ _ (Ok tt) c.in_ok-write_all.ensures.written c.in_ok-write_all.ensures.sends c.in_ok-write_all.ensures.writes)
    (writes_as _ _ _ _ _ _ _ c.as_bytes.ensures.value (writes_all _ _ _ _ _ _ _ (Ok tt) c.in_ok-write_all-2.ensures.written c.in_ok-write_all-2.ensures.sends c.in_ok-write_all-2.ensures.writes))) (writes_all _ _ _ _ _ _ _ c.write_all-3.result c.write_all-3.ensures.written c.write_all-3.ensures.sends c.write_all-3.ensures.writes)
