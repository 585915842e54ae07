use Rattle.std.proofs.Common.{rules, sym, ◌∙◌, arith}
use Rattle.moc_ranges.specs.Private.CellRuns.{pieces_along}
use Rattle.moc_ranges.proofs.CellPieces.{ahead_next}
use Rattle.moc_ranges.proofs.cell_ranges.CellRangesIterator.next.Goals as goal

pub returns-then-self-clause-steps : goal.returns-then-self-clause-steps
returns-then-self-clause-steps c =
    let i = c.self.inside in
    sym c.self.view_is ∙ ahead_next i.buffer (pieces_along i.order i.ranges) i.returned i.count c.if-self.true (omega (arith, c.self.invariant.1, c.self.invariant.2))

pub returns-then-self-clause-goes : goal.returns-then-self-clause-goes
returns-then-self-clause-goes c = rw (returns-then-self-clause-steps c) (search rules)
