use Rattle.std.proofs.Common.{◌≡◌, arith, sym, subst, refl}
use Rattle.std.specs.Prelude.{OnOk, IfOk}
use Rattle.std.specs.FinSet as set
use Rattle.moc_blocks.specs.RangeList.{NumberSet}
use Rattle.moc_ranges.proofs.Adding.{only_range, common_count_at_most_second, new_count, none_new, union_with_contained}
use Rattle.moc_ranges.proofs.coverage.Coverage.insert_all.Goals as goal

pub returns-in-Some-len1-clause-set : goal.returns-in-Some-len1-clause-set
returns-in-Some-len1-clause-set c =
    let is = only_range c.ranges-2.result c.in-Some-len1.field-0.now c.args.other.now c.ranges-2.ensures.set c.in-Some-len1.ensures.0 c.in-Some-len1.len_at_least c.in-Some-len1.len_below in
    subst (λ (s : NumberSet). OnOk c.insert_range.result (c.insert_range.new.self ≡ set.union c.args.self.now s)) (sym is) c.insert_range.ensures.set

pub returns-in-Some-len1-clause-added : goal.returns-in-Some-len1-clause-added
returns-in-Some-len1-clause-added c =
    let is = only_range c.ranges-2.result c.in-Some-len1.field-0.now c.args.other.now c.ranges-2.ensures.set c.in-Some-len1.ensures.0 c.in-Some-len1.len_at_least c.in-Some-len1.len_below in
    subst (λ (s : NumberSet). IfOk c.insert_range.result (λ n. n ≡ set.len (set.difference s c.args.self.now))) (sym is) c.insert_range.ensures.added

pub overflow_sub-added : goal.overflow_sub-added
overflow_sub-added c = omega (arith, c.count.ensures.size, c.count_common.ensures.size, common_count_at_most_second c.args.self.now c.args.other.now)

pub returns-in_ok-self-clause-added : goal.returns-in_ok-self-clause-added
returns-in_ok-self-clause-added c = new_count c.args.self.now c.args.other.now _ _ _ c.count.ensures.size c.count_common.ensures.size refl

pub returns-else-added-gt0-clause-set : goal.returns-else-added-gt0-clause-set
returns-else-added-gt0-clause-set c =
    let new = new_count c.args.self.now c.args.other.now _ _ _ c.count.ensures.size c.count_common.ensures.size refl in
    sym (union_with_contained c.args.self.now c.args.other.now (none_new c.args.self.now c.args.other.now (omega (arith, new, c.if-added-gt0.false))))

pub returns-else-added-gt0-clause-added : goal.returns-else-added-gt0-clause-added
returns-else-added-gt0-clause-added c = new_count c.args.self.now c.args.other.now _ _ _ c.count.ensures.size c.count_common.ensures.size refl
