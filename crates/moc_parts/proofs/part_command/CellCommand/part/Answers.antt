use Rattle.std.proofs.Common.{◌<◌, ◌≤◌, subst, ◌∙◌}
use Rattle.moc_sphere.specs.CellNumber.{cell_count, max_order}
use Rattle.moc_parts.proofs.CellCommands.{cell_needs_part}
use Rattle.moc_parts.proofs.part_command.CellCommand.part.Goals as goal

pub returns : goal.returns
returns c = cell_needs_part c.args.self.now.action c.args.self.now.cell c.of.result
    record { order_in_range = subst (λ n. n ≤ max_order) (c.get.ensures.value ∙ c.order.ensures) c.get.ensures.in_range; index_in_range = subst (λ n. n < cell_count c.args.self.now.cell.order) c.index.ensures.value c.index.ensures.in_range }
    (c.of.ensures ∙ c.base_pixel.ensures.value)
