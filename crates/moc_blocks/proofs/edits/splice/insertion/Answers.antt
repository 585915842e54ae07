use Rattle.std.proofs.Common.{[], ◌∷◌, ◌≡◌, min, take, drop, List, ℕ, arith, subst, sym}
use Rattle.std.proofs.lemmas.List.{take_rest, take-append-drop}
use Rattle.moc_blocks.specs.RangeList.{IsNormal}
use Rattle.moc_blocks.specs.Private.Blocks.{next_of}
use Rattle.moc_blocks.specs.Private.Walks.{all_ranges, EndsBy, EndsAfterAt}
use Rattle.moc_blocks.specs.Private.Edits.{IsMergedRange}
use Rattle.moc_blocks.proofs.Blocking.{IsNormal-suffix}
use Rattle.moc_blocks.proofs.Passing.{all_ranges-ranges}
use Rattle.moc_blocks.proofs.Splicing.{inserts, insert_shape, replace_shape}
use Rattle.moc_blocks.proofs.edits.splice.insertion.Goals as goal

pub count_ended_near-place-requires : goal.count_ended_near-place-requires
count_ended_near-place-requires c = subst IsNormal (sym (all_ranges-ranges c.args.ranges.now)) c.requires.normal

pub merge_touching-end-requires-clause-normal : goal.merge_touching-end-requires-clause-normal
merge_touching-end-requires-clause-normal c =
    let k = c.count_ended_near-place.result in
    let rs = c.args.ranges.now in
    subst IsNormal (sym (take_rest rs k)) (IsNormal-suffix (take k rs) (drop k rs) (subst IsNormal (sym (take-append-drop k rs)) c.requires.normal))

pub returns-in-0 : goal.returns-in-0
returns-in-0 c =
    let k = c.count_ended_near-place.result in
    let rs = c.args.ranges.now in
    let start = c.start_of-start.result in
    let end = c.merge_touching-end.result.end in
    let rest = c.merge_touching-end.result.rest.now in
    inserts c.args.from c.args.to start end k 0 rs rest _ c.requires.normal c.requires.filled c.requires.within c.count_ended_near-place.ensures.bound
    (subst (λ n. EndsBy n (all_ranges (λ (r : ℕ × ℕ). r ∷ []) (take k rs))) c.saturating_sub.ensures c.count_ended_near-place.ensures.ended)
    (subst (λ n. EndsAfterAt (λ (r : ℕ × ℕ). r ∷ []) rs n k) c.saturating_sub.ensures c.count_ended_near-place.ensures.past)
    (subst (λ (l : List (ℕ × ℕ)). start ≡ min c.args.from (next_of l)) (take_rest rs k) c.start_of-start.ensures)
    (subst (λ (l : List (ℕ × ℕ)). IsMergedRange start c.args.to l end rest) (take_rest rs k) c.merge_touching-end.ensures)
    c.in-0.is (λ l is. insert_shape k rs l (start, end) is) c.count_ended_near-place.ensures.bound

pub returns-in-1 : goal.returns-in-1
returns-in-1 c =
    let k = c.count_ended_near-place.result in
    let rs = c.args.ranges.now in
    let start = c.start_of-start.result in
    let end = c.merge_touching-end.result.end in
    let rest = c.merge_touching-end.result.rest.now in
    inserts c.args.from c.args.to start end k 1 rs rest _ c.requires.normal c.requires.filled c.requires.within c.count_ended_near-place.ensures.bound
    (subst (λ n. EndsBy n (all_ranges (λ (r : ℕ × ℕ). r ∷ []) (take k rs))) c.saturating_sub.ensures c.count_ended_near-place.ensures.ended)
    (subst (λ n. EndsAfterAt (λ (r : ℕ × ℕ). r ∷ []) rs n k) c.saturating_sub.ensures c.count_ended_near-place.ensures.past)
    (subst (λ (l : List (ℕ × ℕ)). start ≡ min c.args.from (next_of l)) (take_rest rs k) c.start_of-start.ensures)
    (subst (λ (l : List (ℕ × ℕ)). IsMergedRange start c.args.to l end rest) (take_rest rs k) c.merge_touching-end.ensures)
    c.in-1.is (λ l is. replace_shape k 1 rs l (start, end) is) (omega (arith, c.in-1.is))

pub returns-in-2 : goal.returns-in-2
returns-in-2 c =
    let k = c.count_ended_near-place.result in
    let rs = c.args.ranges.now in
    let start = c.start_of-start.result in
    let end = c.merge_touching-end.result.end in
    let rest = c.merge_touching-end.result.rest.now in
    inserts c.args.from c.args.to start end k 2 rs rest _ c.requires.normal c.requires.filled c.requires.within c.count_ended_near-place.ensures.bound
    (subst (λ n. EndsBy n (all_ranges (λ (r : ℕ × ℕ). r ∷ []) (take k rs))) c.saturating_sub.ensures c.count_ended_near-place.ensures.ended)
    (subst (λ n. EndsAfterAt (λ (r : ℕ × ℕ). r ∷ []) rs n k) c.saturating_sub.ensures c.count_ended_near-place.ensures.past)
    (subst (λ (l : List (ℕ × ℕ)). start ≡ min c.args.from (next_of l)) (take_rest rs k) c.start_of-start.ensures)
    (subst (λ (l : List (ℕ × ℕ)). IsMergedRange start c.args.to l end rest) (take_rest rs k) c.merge_touching-end.ensures)
    c.in-2.is (λ l is. replace_shape k 2 rs l (start, end) is) (omega (arith, c.in-2.is))
