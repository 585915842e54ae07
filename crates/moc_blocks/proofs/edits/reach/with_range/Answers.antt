use Rattle.std.proofs.Common.{◌≡◌, ◌∷◌, [], ◌++◌, ◌∙◌, ap, append_assoc, List, ℕ, subst, sym, take, drop, min}
use Rattle.std.proofs.lemmas.List.{take_rest, take-append-drop}
use Rattle.moc_blocks.specs.RangeList.{IsNormal}
use Rattle.moc_blocks.specs.Private.Blocks.{next_of}
use Rattle.moc_blocks.specs.Private.Walks.{all_ranges, EndsBy, EndsAfterAt}
use Rattle.moc_blocks.specs.Private.Edits.{IsMergedRange}
use Rattle.moc_blocks.proofs.Blocking.{IsNormal-suffix}
use Rattle.moc_blocks.proofs.Passing.{all_ranges-ranges}
use Rattle.moc_blocks.proofs.Editing.{range_inserted_at_cut}
use Rattle.moc_blocks.proofs.edits.reach.with_range.Goals as goal

pub count_ended-ended-requires : goal.count_ended-ended-requires
count_ended-ended-requires c = subst IsNormal (sym (all_ranges-ranges c.args.ranges.now)) c.requires.normal

pub merge_touching-end-requires-clause-normal : goal.merge_touching-end-requires-clause-normal
merge_touching-end-requires-clause-normal c =
    let k = c.count_ended-ended.result in
    let rs = c.args.ranges.now in
    subst IsNormal (sym (take_rest rs k)) (IsNormal-suffix (take k rs) (drop k rs) (subst IsNormal (sym (take-append-drop k rs)) c.requires.normal))

pub returns : goal.returns
returns c =
    let k = c.count_ended-ended.result in
    let rs = c.args.ranges.now in
    let limit = c.saturating_sub.ensures in
    let start = c.start_of-start.result in
    let end = c.merge_touching-end.result.end in
    let rest = c.merge_touching-end.result.rest.now in
    let made = c.in_ok-extend_from_slice-2.ensures.items ∙ ap (λ (l : List (ℕ × ℕ)). l ++ rest) (c.in_ok-push.ensures.items ∙ ap (λ (l : List (ℕ × ℕ)). l ++ (start, end) ∷ []) (c.in_ok-extend_from_slice.ensures.items ∙ ap (λ (l : List (ℕ × ℕ)). l ++ take k rs) c.in_ok-new.ensures.items)) ∙ append_assoc (take k rs) ((start, end) ∷ []) rest in
    range_inserted_at_cut c.args.from c.args.to start end k rs rest _ c.requires.normal c.requires.filled c.requires.within
    (subst (λ n. EndsBy n (all_ranges (λ (r : ℕ × ℕ). r ∷ []) (take k rs))) limit c.count_ended-ended.ensures.ended)
    (subst (λ n. EndsAfterAt (λ (r : ℕ × ℕ). r ∷ []) rs n k) limit c.count_ended-ended.ensures.past)
    (subst (λ (l : List (ℕ × ℕ)). start ≡ min c.args.from (next_of l)) (take_rest rs k) c.start_of-start.ensures)
    (subst (λ (l : List (ℕ × ℕ)). IsMergedRange start c.args.to l end rest) (take_rest rs k) c.merge_touching-end.ensures)
    made
