use Rattle.std.proofs.Common.{◌≡◌, ◌∙◌, ◌∷◌, [], ◌++◌, List, ℕ, ap, arith, append_assoc, drop, get_or, length, ◌-◌, subst, sym, take}
use Rattle.std.proofs.lemmas.List.{take_rest}
use Rattle.moc_blocks.specs.RangeList.{IsNormal}
use Rattle.moc_blocks.proofs.Basics.{first_item}
use Rattle.moc_blocks.proofs.Blocking.{none_there}
use Rattle.moc_blocks.proofs.Passing.{all_ranges-ranges}
use Rattle.moc_blocks.proofs.Cutting.{below_all, below_cut, below_uncut, past_next}
use Rattle.moc_blocks.proofs.edits.cutting.push_parts_below.Goals as goal

pub count_ended-ended-requires : goal.count_ended-ended-requires
count_ended-ended-requires c = subst IsNormal (sym (all_ranges-ranges c.args.ranges.now)) c.requires

pub returns-in_default : goal.returns-in_default
returns-in_default c =
    let k = c.count_ended-ended.result in
    let rs = c.args.ranges.now in
    let none : drop k rs ≡ [] = sym (take_rest rs k) ∙ none_there _ (omega (arith, c.in_default.len_below)) in
    c.in_ok-extend_from_slice.ensures.items
    ∙ ap (λ (l : List (ℕ × ℕ)). c.args.new.now.items ++ l) (sym (below_all c.args.limit k rs c.requires c.count_ended-ended.ensures.ended none))

pub returns-in_ok-push : goal.returns-in_ok-push
returns-in_ok-push c =
    let k = c.count_ended-ended.result in
    let rs = c.args.ranges.now in
    let next = sym (take_rest rs k) ∙ first_item (take (length rs - k) (drop k rs)) (0, 0) c.in-len1-up.len_at_least in
    let past = past_next rs k c.args.limit c.count_ended-ended.ensures.past _ _ next in
    let part : ℕ × ℕ = ((get_or (take (length rs - k) (drop k rs)) 0 (0, 0)).0, c.args.limit) in
    c.in_ok-push.ensures.items ∙ ap (λ (l : List (ℕ × ℕ)). l ++ part ∷ []) c.in_ok-extend_from_slice.ensures.items ∙ append_assoc c.args.new.now.items (take k rs) (part ∷ [])
    ∙ ap (λ (l : List (ℕ × ℕ)). c.args.new.now.items ++ l) (sym (below_cut c.args.limit k rs _ _ c.requires c.count_ended-ended.ensures.ended next past c.if-range-limit.true))

pub returns-else-range-limit : goal.returns-else-range-limit
returns-else-range-limit c =
    let k = c.count_ended-ended.result in
    let rs = c.args.ranges.now in
    let next = sym (take_rest rs k) ∙ first_item (take (length rs - k) (drop k rs)) (0, 0) c.in-len1-up.len_at_least in
    let past = past_next rs k c.args.limit c.count_ended-ended.ensures.past _ _ next in
    c.in_ok-extend_from_slice.ensures.items
    ∙ ap (λ (l : List (ℕ × ℕ)). c.args.new.now.items ++ l) (sym (below_uncut c.args.limit k rs _ _ c.requires c.count_ended-ended.ensures.ended next past (omega (arith, c.if-range-limit.false))))
