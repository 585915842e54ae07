use Rattle.std.proofs.Common.{◌-◌, ◌^◌, ◌/◌, ℕ, ap, ◌∙◌, arith, ◌≤◌}
use Rattle.moc_sphere.specs.CellNumber.{CellNumber}
use Rattle.moc_sphere.specs.Faces.{x_of, y_of}
use Rattle.moc_sphere.specs.Private.Spread.{spread_of}
use Rattle.moc_sphere.proofs.CellFacts.{within_is, x_code, y_code}
use Rattle.moc_sphere.proofs.OffBorder.{last_code}
use Rattle.moc_sphere.proofs.cell.Cell.spread_xy.Goals as goal
use Rattle.moc_sphere.proofs.cell.Cell.spread_xy.Goals.{After-even_bits-3}

small : (c : After-even_bits-3) → c.self.inside.order ≤ 29
small c = omega (arith, c.get.ensures.value, c.get.ensures.in_range)

pub returns-clause-x : goal.returns-clause-x
returns-clause-x c =
    c.even_bits.ensures
    ∙ ap (λ n. spread_of 32 (x_of 32 n)) (within_is c.self.inside.order c.get.result c.self.inside.index (small c) c.get.ensures.value)
    ∙ ap (spread_of 32) (x_code c.self.inside.order c.self.inside.index (small c))
    ∙ ap (λ (s : CellNumber). spread_of 32 (x_of s.order s.index)) c.self.view_is

pub returns-clause-y : goal.returns-clause-y
returns-clause-y c =
    c.even_bits-2.ensures
    ∙ ap (λ (n : ℕ). spread_of 32 (x_of 32 (n / 2))) (within_is c.self.inside.order c.get.result c.self.inside.index (small c) c.get.ensures.value)
    ∙ ap (spread_of 32) (y_code c.self.inside.order c.self.inside.index (small c))
    ∙ ap (λ (s : CellNumber). spread_of 32 (y_of s.order s.index)) c.self.view_is

pub returns-clause-last : goal.returns-clause-last
returns-clause-last c =
    c.even_bits-3.ensures
    ∙ ap (spread_of 32) (last_code c.self.inside.order c.get.result (small c) c.get.ensures.value)
    ∙ ap (λ (s : CellNumber). spread_of 32 (2 ^ s.order - 1)) c.self.view_is
