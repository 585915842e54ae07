-- The results for a nested number and for a ring number.
use Rattle.moc_lines.proofs.NumberingLemmas.{nested_result, ring_result}
use Rattle.moc_lines.proofs.numbering.Numbering.cell.Goals as goal

pub returns-in-Nest : goal.returns-in-Nest
returns-in-Nest c =
    rw c.in-Nest.is (nested_result c.args.order c.args.number c.new.result c.or.result c.or.ensures c.new.ensures.cell)

pub returns-in-Ring : goal.returns-in-Ring
returns-in-Ring c =
    rw c.in-Ring.is (ring_result c.args.order c.args.number c.from_ring.result c.or-in-Ring.result c.or-in-Ring.ensures
    c.from_ring.ensures.number c.from_ring.ensures.only)
