use Rattle.std.proofs.Common.{◌≡◌, ◌+◌, ◌-◌, ◌/◌, ap, ◌∙◌, arith, rules}
use Rattle.moc_ranges.specs.Private.CellCounts.{range_cell_count}
use Rattle.moc_ranges.proofs.CellCounts.{added_all, added_order, no_lower_cells, run_of_order_0}
use Rattle.moc_ranges.proofs.CellCounts.{skipped_added, skipped_inner, skipped_some, skipped_within}
use Rattle.moc_ranges.proofs.CellCounts.{run_with_parents, run_without_parents}
use Rattle.moc_ranges.proofs.CellPieces.{parents_are}
use Rattle.moc_ranges.proofs.cell_counts.add_cells.Goals as goal

pub loop-order-init : goal.loop-order-init
loop-order-init c =
    let skipped = c.min-skipped.result in
    let given = c.requires in
    record {
      inner = skipped_inner c.args.from c.args.to skipped given.ascending given.within c.min-skipped.ensures;
      some = skipped_some c.args.from c.args.to skipped given.ascending given.within c.min-skipped.ensures;
      within = skipped_within c.args.from c.args.to skipped given.ascending given.within c.min-skipped.ensures;
      least = omega (arith, c.min-skipped.ensures);
      greatest = omega arith;
      added = skipped_added c.args.from c.args.to skipped given.ascending given.within c.min-skipped.ensures c.args.counts.now (search rules);
    }

pub loop-order-preserved : goal.loop-order-preserved
loop-order-preserved c =
    let l = c.loop-order in
    let k = l.order - 1 in
    let count = run_with_parents k c.args.from c.args.to l.first l.end (omega arith) (omega arith) c.requires.ascending c.requires.within l.invariant.inner (omega arith) in
    record {
      inner = parents_are k c.args.from c.args.to l.first l.end (omega arith) (omega arith) l.invariant.inner;
      some = omega arith;
      within = omega arith;
      least = omega arith;
      greatest = omega arith;
      added = added_order l.order k c.args.from c.args.to _ c.args.counts.now l.counts (omega arith) (omega arith) l.invariant.added count;
    }

pub returns-then-end_parent-first_parent : goal.returns-then-end_parent-first_parent
returns-then-end_parent-first_parent c =
    let l = c.loop-order in
    let k = l.order - 1 in
    let count = run_without_parents k c.args.from c.args.to l.first l.end (omega arith) (omega arith) c.requires.ascending c.requires.within l.invariant.inner (omega arith) in
    let parents = parents_are k c.args.from c.args.to l.first l.end (omega arith) (omega arith) l.invariant.inner in
    added_all k c.args.from c.args.to c.args.counts.now _ (added_order l.order k c.args.from c.args.to _ c.args.counts.now l.counts (omega arith) (omega arith) l.invariant.added count)
    (λ j lt. no_lower_cells (k - 1) j c.args.from c.args.to ((l.first + 3) / 4) (l.end / 4) (omega arith) (omega arith) c.requires.ascending c.requires.within parents (omega arith))

pub returns : goal.returns
returns c =
    let l = c.loop-order in
    let last : 0 ≡ l.order - 1 = omega arith in
    let count = ap (range_cell_count c.args.from c.args.to) last ∙ run_of_order_0 (l.order - 1) c.args.from c.args.to l.first l.end (omega arith) c.requires.ascending c.requires.within l.invariant.inner in
    added_order l.order 0 c.args.from c.args.to _ c.args.counts.now l.counts (omega arith) (omega arith) l.invariant.added count
