use Rattle.std.proofs.Common.{ap, arith, length}
use Rattle.moc_blocks.specs.RangeList.{set_of}
use Rattle.moc_blocks.proofs.Stepping.{search_cost_of_ranges}
use Rattle.moc_lists.proofs.list.RangeList.contains_counting.Goals as goal

pub returns-in_default-clause-cost : goal.returns-in_default-clause-cost
returns-in_default-clause-cost c =
    search_cost_of_ranges c.self.inside.small.items _ (set_of c.args.self.now) _ _ (ap set_of c.self.view_is) c.self.invariant (omega (arith, c.in_default.len_at_least, ap length c.deref.ensures.value)) c.find_range.ensures.increases (λ d lt. c.find_range.ensures.cost d (omega (arith, lt, ap length c.deref.ensures.value)))
