use Rattle.std.proofs.Common.{◌≡◌, ◌∙◌, ap, sym, true, arith}
use Rattle.std.specs.FinSet as set
use Rattle.std.specs.Cmp.{nat_cmp_total}
use Rattle.moc_blocks.specs.RangeList.{numbers, NumberSet, set_of}
use Rattle.moc_ranges.proofs.Views.{range_view}
use Rattle.moc_ranges.proofs.Adding.{no_numbers, union_with_contained, contained_adds_nothing, match_some, set_is_union, added_count_is_new}
use Rattle.moc_ranges.proofs.Adding.{union_width}
use Rattle.moc_blocks.proofs.Replacing.{none_matched}
use Rattle.moc_ranges.proofs.coverage.Coverage.insert_range.Goals as goal

pub returns-then-to-from-clause-set : goal.returns-then-to-from-clause-set
returns-then-to-from-clause-set c = sym (union_with_contained c.args.self.now (numbers c.args.from c.args.to) (no_numbers c.args.from c.args.to c.args.self.now c.if-to-from.true))

pub returns-then-to-from-clause-added : goal.returns-then-to-from-clause-added
returns-then-to-from-clause-added c = sym (contained_adds_nothing c.args.self.now (numbers c.args.from c.args.to) (no_numbers c.args.from c.args.to c.args.self.now c.if-to-from.true))

pub returns-then-covers_range-clause-set : goal.returns-then-covers_range-clause-set
returns-then-covers_range-clause-set c =
    let has : set.is_subset (numbers c.args.from c.args.to) c.args.self.now ≡ true = sym c.covers_range.ensures ∙ c.if-covers_range.true in
    sym (union_with_contained c.args.self.now (numbers c.args.from c.args.to) (set.is_subset-contains nat_cmp_total (numbers c.args.from c.args.to) c.args.self.now has))

pub returns-then-covers_range-clause-added : goal.returns-then-covers_range-clause-added
returns-then-covers_range-clause-added c =
    let has : set.is_subset (numbers c.args.from c.args.to) c.args.self.now ≡ true = sym c.covers_range.ensures ∙ c.if-covers_range.true in
    sym (contained_adds_nothing c.args.self.now (numbers c.args.from c.args.to) (set.is_subset-contains nat_cmp_total (numbers c.args.from c.args.to) c.args.self.now has))

pub returns-in-Some-clause-set : goal.returns-in-Some-clause-set
returns-in-Some-clause-set c =
    set_is_union c.args.from c.args.to _ c.self.inside.list c.insert.new.self (match_some _ _ _ _ c.in-Some.is c.in_ok-added.ensures.inserted)
    ∙ ap (λ (s : NumberSet). set.union s (numbers c.args.from c.args.to)) c.self.view_is

pub returns-in-Some-clause-added : goal.returns-in-Some-clause-added
returns-in-Some-clause-added c =
    added_count_is_new c.args.from c.args.to c.in-Some.added c.self.inside.list c.insert.new.self c.in_ok-added.ensures.normal_before c.in_ok-added.ensures.normal (match_some _ _ _ _ c.in-Some.is c.in_ok-added.ensures.inserted)
    ∙ ap (λ (s : NumberSet). set.len (set.difference (numbers c.args.from c.args.to) s)) c.self.view_is

pub overflow_sub-added : goal.overflow_sub-added
overflow_sub-added c =
    let was : set_of c.insert.new.self ≡ c.args.self.now =
    ap set_of (none_matched _ _ _ c.in_default.not-Some c.in_ok-added.ensures.inserted) ∙ c.self.view_is in
    let made : set_of c.in_ok-list.list ≡ set.union c.args.self.now (numbers c.args.from c.args.to) =
    c.in_ok-list.ensures ∙ (λ i. set.union (set_of (c.ranges-2.ensures.list i)) (set_of (c.of.ensures.list i)))
    ∙ (λ i. set.union (was i) (range_view c.args.from c.args.to i)) in
    omega (arith, c.total_width.ensures.value, c.total_width-2.ensures.value, union_width c.args.from c.args.to c.insert.new.self c.in_ok-list.list c.args.self.now was c.total_width-2.ensures.normal c.total_width.ensures.normal made)

pub returns-clause-set : goal.returns-clause-set
returns-clause-set c =
    let was : set_of c.insert.new.self ≡ c.args.self.now =
    ap set_of (none_matched _ _ _ c.in_default.not-Some c.in_ok-added.ensures.inserted) ∙ c.self.view_is in
    let made : set_of c.in_ok-list.list ≡ set.union c.args.self.now (numbers c.args.from c.args.to) =
    c.in_ok-list.ensures ∙ (λ i. set.union (set_of (c.ranges-2.ensures.list i)) (set_of (c.of.ensures.list i)))
    ∙ (λ i. set.union (was i) (range_view c.args.from c.args.to i)) in
    made

pub returns-clause-added : goal.returns-clause-added
returns-clause-added c =
    let was : set_of c.insert.new.self ≡ c.args.self.now =
    ap set_of (none_matched _ _ _ c.in_default.not-Some c.in_ok-added.ensures.inserted) ∙ c.self.view_is in
    let made : set_of c.in_ok-list.list ≡ set.union c.args.self.now (numbers c.args.from c.args.to) =
    c.in_ok-list.ensures ∙ (λ i. set.union (set_of (c.ranges-2.ensures.list i)) (set_of (c.of.ensures.list i)))
    ∙ (λ i. set.union (was i) (range_view c.args.from c.args.to i)) in
    omega (arith, c.total_width.ensures.value, c.total_width-2.ensures.value, union_width c.args.from c.args.to c.insert.new.self c.in_ok-list.list c.args.self.now was c.total_width-2.ensures.normal c.total_width.ensures.normal made)
