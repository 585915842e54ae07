use Rattle.std.proofs.Common.{◌∙◌, ℕ, ap}
use Rattle.moc_web.specs.Jobs.{cell_lines}
use Rattle.moc_web.proofs.measuring.measure.Goals as goal

pub returns-clause-measures : goal.returns-clause-measures
returns-clause-measures c = (
  c.in_ok-parsed.parsed,
  c.in_ok-parsed.ensures.represents,
  c.in_ok-format.ensures.ok ∙ ap (λ (count : ℕ). cell_lines c.args.cell count) c.count_cell.ensures,
)
