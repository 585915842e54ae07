use Rattle.std.proofs.Common.{◌≡◌, ◌∙◌, ap, sym, false, arith}
use Rattle.std.specs.FinSet as set
use Rattle.moc_blocks.specs.RangeList.{numbers, NumberSet, set_of}
use Rattle.moc_ranges.specs.Operations.{meets}
use Rattle.moc_ranges.proofs.Views.{range_view}
use Rattle.moc_ranges.proofs.Adding.{match_some}
use Rattle.moc_ranges.proofs.Removing.{none_removed, none_met, none_inside, shrunk_count, difference_width}
use Rattle.moc_blocks.proofs.Editing.{shrunk_set}
use Rattle.moc_blocks.proofs.Replacing.{none_matched}
use Rattle.moc_ranges.proofs.coverage.Coverage.remove_range.Goals as goal

pub returns-then-to-from-clause-set : goal.returns-then-to-from-clause-set
returns-then-to-from-clause-set c = none_removed c.args.self.now (numbers c.args.from c.args.to) (none_inside c.args.from c.args.to c.args.self.now c.if-to-from.true)

pub returns-then-to-from-clause-removed : goal.returns-then-to-from-clause-removed
returns-then-to-from-clause-removed c = sym (none_inside c.args.from c.args.to c.args.self.now c.if-to-from.true)

pub returns-then-not-meets_range-clause-set : goal.returns-then-not-meets_range-clause-set
returns-then-not-meets_range-clause-set c =
    let apart : meets c.args.self.now (numbers c.args.from c.args.to) ≡ false = sym c.meets_range.ensures ∙ c.if-not-meets_range.true in
    none_removed c.args.self.now (numbers c.args.from c.args.to) (none_met _ _ apart)

pub returns-then-not-meets_range-clause-removed : goal.returns-then-not-meets_range-clause-removed
returns-then-not-meets_range-clause-removed c =
    let apart : meets c.args.self.now (numbers c.args.from c.args.to) ≡ false = sym c.meets_range.ensures ∙ c.if-not-meets_range.true in
    sym (none_met _ _ apart)

pub returns-in-Some-clause-set : goal.returns-in-Some-clause-set
returns-in-Some-clause-set c =
    let less = match_some _ _ _ _ c.in-Some.is c.in_ok-removed.ensures.removed in
    shrunk_set c.args.from c.args.to c.self.inside.list c.remove.new.self less.same
    ∙ ap (λ (s : NumberSet). set.difference s (numbers c.args.from c.args.to)) c.self.view_is

pub returns-in-Some-clause-removed : goal.returns-in-Some-clause-removed
returns-in-Some-clause-removed c =
    shrunk_count c.args.from c.args.to c.in-Some.removed c.self.inside.list c.remove.new.self c.in_ok-removed.ensures.normal_before c.in_ok-removed.ensures.normal (match_some _ _ _ _ c.in-Some.is c.in_ok-removed.ensures.removed)
    ∙ ap (λ (s : NumberSet). set.len (set.intersection s (numbers c.args.from c.args.to))) c.self.view_is

pub overflow_sub-removed : goal.overflow_sub-removed
overflow_sub-removed c =
    let was : set_of c.remove.new.self ≡ c.args.self.now =
    ap set_of (none_matched _ _ _ c.in_default.not-Some c.in_ok-removed.ensures.removed) ∙ c.self.view_is in
    let made : set_of c.in_ok-list.list ≡ set.difference c.args.self.now (numbers c.args.from c.args.to) =
    c.in_ok-list.ensures ∙ (λ i. set.difference (set_of (c.ranges-2.ensures.list i)) (set_of (c.of.ensures.list i)))
    ∙ (λ i. set.difference (was i) (range_view c.args.from c.args.to i)) in
    omega (arith, c.total_width.ensures.value, c.total_width-2.ensures.value, difference_width c.remove.new.self c.in_ok-list.list c.args.self.now (numbers c.args.from c.args.to) was c.total_width.ensures.normal c.total_width-2.ensures.normal made)

pub returns-clause-set : goal.returns-clause-set
returns-clause-set c =
    let was : set_of c.remove.new.self ≡ c.args.self.now =
    ap set_of (none_matched _ _ _ c.in_default.not-Some c.in_ok-removed.ensures.removed) ∙ c.self.view_is in
    c.in_ok-list.ensures ∙ (λ i. set.difference (set_of (c.ranges-2.ensures.list i)) (set_of (c.of.ensures.list i)))
    ∙ (λ i. set.difference (was i) (range_view c.args.from c.args.to i))

pub returns-clause-removed : goal.returns-clause-removed
returns-clause-removed c =
    let was : set_of c.remove.new.self ≡ c.args.self.now =
    ap set_of (none_matched _ _ _ c.in_default.not-Some c.in_ok-removed.ensures.removed) ∙ c.self.view_is in
    let made : set_of c.in_ok-list.list ≡ set.difference c.args.self.now (numbers c.args.from c.args.to) =
    c.in_ok-list.ensures ∙ (λ i. set.difference (set_of (c.ranges-2.ensures.list i)) (set_of (c.of.ensures.list i)))
    ∙ (λ i. set.difference (was i) (range_view c.args.from c.args.to i)) in
    omega (arith, c.total_width.ensures.value, c.total_width-2.ensures.value, difference_width c.remove.new.self c.in_ok-list.list c.args.self.now (numbers c.args.from c.args.to) was c.total_width.ensures.normal c.total_width-2.ensures.normal made)
