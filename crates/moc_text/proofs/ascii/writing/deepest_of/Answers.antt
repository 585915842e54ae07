use Rattle.std.proofs.Common.{◌≡◌, ◌-◌, ℕ, suc, subst, sym, ◌∙◌, arith}
use Rattle.moc_ranges.specs.Cells.{cells_in, cells_of}
use Rattle.moc_text.proofs.Runs.{AreBelow, of_order, orders_below, next_some, next_none, none_at_all}
use Rattle.moc_text.proofs.ascii.writing.deepest_of.Goals as goal

pub loop-level-init : goal.loop-level-init
loop-level-init c = record { below = orders_below c.args.orders.0 c.args.orders.1 (cells_of c.args.set.now) c.requires.each; within = omega arith }

pub returns-then-is_some : goal.returns-then-is_some
returns-then-is_some c =
    let k = c.loop-level.level - 1 in
    let up : c.loop-level.level ≡ suc k = omega (arith, c.loop-level-test.true) in
    let cells = cells_of c.args.set.now in
    let same : c.of.result ≡ k = c.of.ensures in
    next_some k cells c.cell_ranges.result c.next.new.self c.next.result c.next.ensures.steps (sym c.is_some.ensures ∙ c.if-is_some.true) c.cell_ranges.ensures.normal
    (subst (λ (n : ℕ). cells_in n c.cell_ranges.result ≡ of_order n cells) same c.cell_ranges.ensures.cells) (subst (λ n. AreBelow n cells) up c.loop-level.invariant.below)

pub loop-level-preserved : goal.loop-level-preserved
loop-level-preserved c =
    let k = c.loop-level.level - 1 in
    let up : c.loop-level.level ≡ suc k = omega (arith, c.loop-level-test.true) in
    let cells = cells_of c.args.set.now in
    let same : c.of.result ≡ k = c.of.ensures in
    record {
      below = next_none k cells c.cell_ranges.result c.next.new.self c.next.result c.next.ensures.steps (sym c.is_some.ensures ∙ c.if-is_some.false)
          (subst (λ (n : ℕ). cells_in n c.cell_ranges.result ≡ of_order n cells) same c.cell_ranges.ensures.cells) (subst (λ n. AreBelow n cells) up c.loop-level.invariant.below);
      within = omega (arith, c.loop-level.invariant.within);
    }

pub returns : goal.returns
returns c = none_at_all c.args.orders.0 c.args.orders.1 c.loop-level.level (cells_of c.args.set.now) c.requires.each c.loop-level.invariant.below c.loop-level-test.false
