use Rattle.std.proofs.Common.{ℕ, ap, ◌∙◌, map}
use Rattle.moc_ranges.specs.Private.Widen.{widen}
use Rattle.moc_blocks.specs.Lemmas.Members.{same_members, in_ranges, contains-set_of}
use Rattle.moc_ranges.proofs.Widening.{widened_is_degraded}
use Rattle.moc_ranges.proofs.coverage.Coverage.degrade.Goals as goal

pub build_widened-requires-clause-size : goal.build_widened-requires-clause-size
build_widened-requires-clause-size c = record { order = c.args.order; order_in_range = c.cell_size.ensures.in_range; is = c.cell_size.ensures.size }

pub returns : goal.returns
returns c = c.in_ok-list.ensures ∙ same_members _ _ (λ q.
    contains-set_of (map (widen c.cell_size.result) c.ranges-2.result) q
    ∙ ap (λ (size : ℕ). in_ranges (map (widen size) c.ranges-2.result) q) c.cell_size.ensures.size
    ∙ widened_is_degraded c.args.order c.ranges-2.result c.args.self.now q c.cell_size.ensures.in_range c.ranges-2.ensures.normal c.ranges-2.ensures.set)
