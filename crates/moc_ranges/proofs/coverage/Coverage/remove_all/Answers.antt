use Rattle.std.proofs.Common.{◌≡◌, arith, sym, subst}
use Rattle.std.specs.Prelude.{OnOk, IfOk}
use Rattle.std.specs.FinSet as set
use Rattle.moc_blocks.specs.RangeList.{NumberSet}
use Rattle.moc_ranges.proofs.Adding.{only_range}
use Rattle.moc_ranges.proofs.Removing.{none_removed}
use Rattle.moc_ranges.proofs.coverage.Coverage.remove_all.Goals as goal

pub returns-in-Some-len1-clause-set : goal.returns-in-Some-len1-clause-set
returns-in-Some-len1-clause-set c =
    let is = only_range c.ranges-2.result c.in-Some-len1.field-0.now c.args.other.now c.ranges-2.ensures.set c.in-Some-len1.ensures.0 c.in-Some-len1.len_at_least c.in-Some-len1.len_below in
    subst (λ (s : NumberSet). OnOk c.remove_range.result (c.remove_range.new.self ≡ set.difference c.args.self.now s)) (sym is) c.remove_range.ensures.set

pub returns-in-Some-len1-clause-removed : goal.returns-in-Some-len1-clause-removed
returns-in-Some-len1-clause-removed c =
    let is = only_range c.ranges-2.result c.in-Some-len1.field-0.now c.args.other.now c.ranges-2.ensures.set c.in-Some-len1.ensures.0 c.in-Some-len1.len_at_least c.in-Some-len1.len_below in
    subst (λ (s : NumberSet). IfOk c.remove_range.result (λ n. n ≡ set.len (set.intersection c.args.self.now s))) (sym is) c.remove_range.ensures.removed

pub returns-else-removed-gt0-clause-set : goal.returns-else-removed-gt0-clause-set
returns-else-removed-gt0-clause-set c = none_removed c.args.self.now c.args.other.now (omega (arith, c.count_common-removed.ensures.size, c.if-removed-gt0.false))
