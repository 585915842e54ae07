use Rattle.std.proofs.Common.{◌∙◌, ◌-◌, length, take, drop, get_or, subst, sym}
use Rattle.std.proofs.lemmas.List.{take_rest}
use Rattle.moc_blocks.specs.RangeList.{IsNormal}
use Rattle.moc_blocks.specs.Private.Edits.{IsSplice}
use Rattle.moc_blocks.specs.declared.edits.rebuild.EditKind.TheVariants.{Remove}
use Rattle.moc_blocks.specs.declared.edits.splice.Splice.TheVariants as splice
use Rattle.moc_blocks.proofs.Basics.{first_item}
use Rattle.moc_blocks.proofs.Cutting.{past_next}
use Rattle.moc_blocks.proofs.Passing.{all_ranges-ranges}
use Rattle.moc_blocks.proofs.Splicing.{cuts_end, cuts_start, removes, splits}
use Rattle.moc_blocks.proofs.edits.splice.removal.Goals as goal

pub count_ended_near-place-requires : goal.count_ended_near-place-requires
count_ended_near-place-requires c = subst IsNormal (sym (all_ranges-ranges c.args.ranges.now)) c.requires.normal

pub returns-in-true-true : goal.returns-in-true-true
returns-in-true-true c =
    let k = c.count_ended_near-place.result in
    let rs = c.args.ranges.now in
    let next = sym (take_rest rs k) ∙ first_item (take (length rs - k) (drop k rs)) (0, 0) c.in-len1-up.len_at_least in
    let r = get_or (take (length rs - k) (drop k rs)) 0 (0, 0) in
    subst (λ n. IsSplice Remove c.args.from c.args.to rs (splice.Split k (r.0, c.args.from) (n, r.1))) (sym c.max.ensures)
    (splits c.args.from c.args.to k rs _ r c.requires.normal c.requires.filled c.count_ended_near-place.ensures.ended next (past_next rs k c.args.from c.count_ended_near-place.ensures.past _ _ next) c.if-not-begins_at_or_after.ensures
    c.in-true-true.is-0 c.in-true-true.is-1 c.requires.within)

pub returns-in-true-false : goal.returns-in-true-false
returns-in-true-false c =
    let k = c.count_ended_near-place.result in
    let rs = c.args.ranges.now in
    let next = sym (take_rest rs k) ∙ first_item (take (length rs - k) (drop k rs)) (0, 0) c.in-len1-up.len_at_least in
    cuts_end c.args.from c.args.to k rs _ _ c.requires.normal c.requires.filled c.count_ended_near-place.ensures.ended next (past_next rs k c.args.from c.count_ended_near-place.ensures.past _ _ next) c.if-not-begins_at_or_after.ensures
    c.in-true-false.is-0 c.in-true-false.is-1 c.requires.within

pub returns-in-false-true : goal.returns-in-false-true
returns-in-false-true c =
    let k = c.count_ended_near-place.result in
    let rs = c.args.ranges.now in
    let next = sym (take_rest rs k) ∙ first_item (take (length rs - k) (drop k rs)) (0, 0) c.in-len1-up.len_at_least in
    let r = get_or (take (length rs - k) (drop k rs)) 0 (0, 0) in
    subst (λ n. IsSplice Remove c.args.from c.args.to rs (splice.Replace k (n, r.1))) (sym c.max.ensures)
    (cuts_start c.args.from c.args.to k rs _ r c.requires.normal c.requires.filled c.count_ended_near-place.ensures.ended next (past_next rs k c.args.from c.count_ended_near-place.ensures.past _ _ next) c.if-not-begins_at_or_after.ensures
    c.in-false-true.is-0 c.in-false-true.is-1 c.requires.within)

pub returns-in-false-false : goal.returns-in-false-false
returns-in-false-false c =
    let k = c.count_ended_near-place.result in
    let rs = c.args.ranges.now in
    let next = sym (take_rest rs k) ∙ first_item (take (length rs - k) (drop k rs)) (0, 0) c.in-len1-up.len_at_least in
    removes c.args.from c.args.to k rs _ _ c.requires.normal c.requires.filled c.count_ended_near-place.ensures.ended next (past_next rs k c.args.from c.count_ended_near-place.ensures.past _ _ next) c.if-not-begins_at_or_after.ensures
    c.in-false-false.is-0 c.in-false-false.is-1 c.requires.within
