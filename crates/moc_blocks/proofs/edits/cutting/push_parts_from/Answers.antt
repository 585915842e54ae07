use Rattle.std.proofs.Common.{◌≡◌, ◌∙◌, ◌∷◌, [], ◌++◌, ◌-◌, List, ℕ, ap, arith, append_assoc, drop, get_or, length, subst, sym, take}
use Rattle.std.proofs.lemmas.List.{take_rest}
use Rattle.moc_blocks.specs.RangeList.{IsNormal}
use Rattle.moc_blocks.proofs.Basics.{first_item}
use Rattle.moc_blocks.proofs.Blocking.{none_there, append_empty}
use Rattle.moc_blocks.proofs.Passing.{all_ranges-ranges}
use Rattle.moc_blocks.proofs.Cutting.{from_none, from_some, past_next}
use Rattle.moc_blocks.proofs.edits.cutting.push_parts_from.Goals as goal

pub count_ended-ended-requires : goal.count_ended-ended-requires
count_ended-ended-requires c = subst IsNormal (sym (all_ranges-ranges c.args.ranges.now)) c.requires

pub returns-in_default : goal.returns-in_default
returns-in_default c =
    let k = c.count_ended-ended.result in
    let rs = c.args.ranges.now in
    let none : drop k rs ≡ [] = sym (take_rest rs k) ∙ none_there _ (omega (arith, c.in_default.len_below)) in
    sym (append_empty c.args.new.now.items)
    ∙ ap (λ (l : List (ℕ × ℕ)). c.args.new.now.items ++ l) (sym (from_none c.args.limit k rs c.count_ended-ended.ensures.ended none))

pub returns-in_ok-extend_from_slice : goal.returns-in_ok-extend_from_slice
returns-in_ok-extend_from_slice c =
    let k = c.count_ended-ended.result in
    let rs = c.args.ranges.now in
    let rest = take (length rs - k) (drop k rs) in
    let next = sym (take_rest rs k) ∙ first_item rest (0, 0) c.in-len1-up.len_at_least in
    let past = past_next rs k c.args.limit c.count_ended-ended.ensures.past _ _ next in
    let part : ℕ × ℕ = (c.max.result, (get_or rest 0 (0, 0)).1) in
    let more = take (length rest - 1) (drop 1 rest) in
    c.in_ok-extend_from_slice.ensures.items ∙ ap (λ (l : List (ℕ × ℕ)). l ++ more) c.in_ok-push.ensures.items ∙ append_assoc c.args.new.now.items (part ∷ []) more
    ∙ ap (λ (n : ℕ). c.args.new.now.items ++ (n, (get_or rest 0 (0, 0)).1) ∷ more) c.max.ensures
    ∙ ap (λ (l : List (ℕ × ℕ)). c.args.new.now.items ++ l) (sym (from_some c.args.limit k rs _ _ c.requires c.count_ended-ended.ensures.ended next past))
