use Rattle.std.proofs.Common.{subst, List, ℕ, arith, []}
use Rattle.moc_ranges.proofs.CellOrders.{Scanning, scan_step, scan_end, orders_of_empty_scan}
use Rattle.moc_ranges.proofs.cells.orders_with_cells.Goals as goal

pub overflow_sub-to : goal.overflow_sub-to
overflow_sub-to c =
    let s = subst (λ (rs : List (ℕ × ℕ)). Scanning c.loop-from.ends c.loop-from.widest rs c.args.ranges) c.in-Some.ensures.steps c.loop-from.invariant.scanning in
    let normal = s.normal in
    omega (arith, normal.0)

pub loop-from-preserved : goal.loop-from-preserved
loop-from-preserved c =
    let s = subst (λ (rs : List (ℕ × ℕ)). Scanning c.loop-from.ends c.loop-from.widest rs c.args.ranges) c.in-Some.ensures.steps c.loop-from.invariant.scanning in
    record { continues = (tt, tt); scanning = rw c.max-widest.ensures (scan_step c.loop-from.ends c.loop-from.widest (c.in-Some.from, c.in-Some.to) c.next.new.self c.args.ranges s) }

pub returns : goal.returns
returns c =
    let s = subst (λ (rs : List (ℕ × ℕ)). Scanning c.loop-from.ends c.loop-from.widest rs c.args.ranges) c.in-None.ensures.steps.0 c.loop-from.invariant.scanning in
    rw (c.min-above.ensures, c.min-below.ensures) (scan_end c.loop-from.ends c.loop-from.widest c.ilog2.result c.args.ranges s c.requires (omega arith) c.ilog2.ensures.next_power_gt)

pub returns-then-widest-eq0 : goal.returns-then-widest-eq0
returns-then-widest-eq0 c =
    let s = subst (λ (rs : List (ℕ × ℕ)). Scanning c.loop-from.ends c.loop-from.widest rs c.args.ranges) c.in-None.ensures.steps.0 c.loop-from.invariant.scanning in
    let nothing = subst (λ (w : ℕ). Scanning c.loop-from.ends w [] c.args.ranges) c.if-widest-eq0.true s in
    orders_of_empty_scan c.loop-from.ends c.args.ranges nothing c.requires
