-- The bound of the cells, or the line of the error.
use Rattle.std.proofs.Common.{◌∙◌}
use Rattle.moc_conversion.proofs.Sending.{writes_all, writes_as}
use Rattle.moc_conversion.proofs.reporting.write_expected.Goals as goal

pub returns-in-None : goal.returns-in-None
returns-in-None g c =
    rw c.in-None.is (writes_as _ _ _ _ _ _ _ (c.as_bytes.ensures.value ∙ c.expected_line.ensures)
    (writes_all _ _ _ _ _ _ _ c.write_all.result c.write_all.ensures.written c.write_all.ensures.sends c.write_all.ensures.writes))
