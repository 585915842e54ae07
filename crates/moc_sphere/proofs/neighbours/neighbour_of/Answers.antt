use Rattle.std.proofs.Common.{◌<◌, subst, sym}
use Rattle.moc_sphere.specs.CellNumber.{cell_count}
use Rattle.moc_sphere.proofs.FaceBounds.{index_below}
use Rattle.moc_sphere.proofs.Neighbouring.{one_found, one_only, one_touches}
use Rattle.moc_sphere.proofs.neighbours.neighbour_of.Goals as goal

-- the cell's index is in the range of its order
in_range : (c : goal.After-at_step) → c.args.cell.index < cell_count c.args.cell.order
in_range c = index_below c.args.cell.order c.args.cell.index (subst (λ f. f < 12) (sym c.requires.place.face) c.requires.face)

pub returns-clause-found : goal.returns-clause-found
returns-clause-found c =
    one_found c.args.cell.order c.args.cell.index c.args.direction c.step.result (in_range c) c.step.ensures.small c.step.ensures.away c.step.ensures.corners
    c.at_step.result c.at_step.ensures

pub returns-clause-only : goal.returns-clause-only
returns-clause-only c =
    one_only c.args.cell.order c.args.cell.index c.args.direction c.step.result (in_range c) c.step.ensures.small c.step.ensures.away c.step.ensures.corners
    c.at_step.result c.at_step.ensures

pub returns-clause-touch : goal.returns-clause-touch
returns-clause-touch c =
    one_touches c.args.cell.order c.args.cell.index c.args.direction c.step.result (in_range c) c.step.ensures.small c.step.ensures.away c.step.ensures.corners
    c.at_step.result c.at_step.ensures
