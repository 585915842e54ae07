use Rattle.std.proofs.Common.{◌∙◌, arith, sym}
use Rattle.std.specs.FinSet as set
use Rattle.moc_blocks.specs.RangeList.{set_of}
use Rattle.moc_blocks.proofs.Replacing.{none_matched}
use Rattle.moc_ranges.proofs.Looking.{common_count_next, common_none_left}
use Rattle.moc_ranges.proofs.Views.{range_view}
use Rattle.moc_ranges.proofs.coverage.Coverage.count_range.Goals as goal

pub returns-in_default : goal.returns-in_default
returns-in_default c = sym (common_none_left c.args.self.now c.args.from c.args.to (none_matched _ _ _ c.in_default.not-Some c.first_ending_after.ensures))

pub returns-then-to-end : goal.returns-then-to-end
returns-then-to-end c =
    omega (arith, c.saturating_sub.ensures, c.max.ensures, common_count_next c.args.self.now c.args.from c.args.to _ c.in-Some.ensures c.if-to-end.true)

pub returns : goal.returns
returns c =
    c.count_common.ensures ∙ (λ i. set.len (set.intersection (set_of (c.ranges-2.ensures.list i)) (set_of (c.of.ensures.list i))))
    ∙ (λ i. set.len (set.intersection (c.self.view_is i) (range_view c.args.from c.args.to i)))
