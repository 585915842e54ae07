use Rattle.std.proofs.Common.{◌≡◌, ◌∙◌, ◌++◌, arith, ap, List, ℕ, subst, sym}
use Rattle.moc_blocks.specs.RangeList.{IsNormal}
use Rattle.moc_blocks.specs.Blocks.{concat}
use Rattle.moc_blocks.specs.Private.Edits.{AreEditedRanges}
use Rattle.moc_blocks.specs.Private.Built.{EndsBelow}
use Rattle.moc_blocks.proofs.Passing.{all_ranges-blocks}
use Rattle.moc_blocks.proofs.Blocking.{concat-append}
use Rattle.moc_blocks.proofs.Merging.{EndsBelow-first}
use Rattle.moc_blocks.proofs.Editing.{some_of, node_normal, pair_normal, node_blocks_after_pair}
use Rattle.moc_blocks.proofs.edits.pairs.edit_pair.Goals as goal
use Rattle.moc_blocks.proofs.edits.pairs.edit_pair.Goals.{After-deref}

pub find_run-requires : goal.find_run-requires
find_run-requires c = subst IsNormal (sym (all_ranges-blocks c.blocks-2.result.now)) (node_normal (concat c.args.around.now.before.now) c.blocks-2.result.now c.args.around.now.run.now (concat c.args.around.now.after.now) c.blocks-2.ensures.value c.requires.normal)

-- the list that was edited
pair_ranges : (c : After-deref) → c.deref.result.now ≡ c.in-Some-pair_at.pair.first.now ++ c.in-Some-pair_at.pair.second.now
pair_ranges c =
    c.deref.ensures.value ∙ c.in_ok-extend_from_slice-2.ensures.items
    ∙ (λ i. (c.in_ok-extend_from_slice.ensures.items ∙ (λ j. c.in_ok-both.ensures.items j ++ c.ranges-2.ensures.value j)) i ++ c.ranges-3.ensures.value i)

pub edit_ranges-requires-clause-normal : goal.edit_ranges-requires-clause-normal
edit_ranges-requires-clause-normal c = subst IsNormal (sym (pair_ranges c)) (pair_normal (concat c.args.around.now.before.now) c.blocks-2.result.now c.args.around.now.run.now c.in-Some-pair_at.pair.before.now c.in-Some-pair_at.pair.after.now (concat c.args.around.now.after.now) c.in-Some-pair_at.pair.first.now c.in-Some-pair_at.pair.second.now c.blocks-2.ensures.value (c.in-Some.ensures.parts ∙ c.in-Some-pair_at.ensures.parts) c.requires.normal)

pub returns : goal.returns
returns c =
    let pair = c.in-Some-pair_at.pair in
    let more : AreEditedRanges c.args.edit c.args.from c.args.to (pair.first.now ++ pair.second.now) c.in_ok-ranges.ranges.items = subst (λ (l : List (ℕ × ℕ)). AreEditedRanges c.args.edit c.args.from c.args.to l c.in_ok-ranges.ranges.items) (
    c.deref.ensures.value ∙ c.in_ok-extend_from_slice-2.ensures.items
    ∙ (λ i. (c.in_ok-extend_from_slice.ensures.items ∙ (λ j. c.in_ok-both.ensures.items j ++ c.ranges-2.ensures.value j)) i ++ c.ranges-3.ensures.value i)) c.in_ok-ranges.ensures in
    let cut = some_of _ _ _ c.in-Some-2.is c.in_ok-cut.ensures in
    let parts = sym c.blocks-2.ensures.value ∙ c.in-Some.ensures.parts ∙ c.in-Some-pair_at.ensures.parts in
    let left = c.in-Some.place.before.now in
    let below = subst (λ (l : List (ℕ × ℕ)). EndsBelow c.args.from l) (all_ranges-blocks left) c.in-Some.ensures.below in
    let starts = ap concat c.in-Some-pair_at.ensures.starts ∙ concat-append pair.before.now c.in-Some-pair_at.ensures.skipped in
    node_blocks_after_pair c.args.edit c.args.from c.args.to (concat c.args.around.now.before.now) (concat c.args.around.now.after.now) c.args.around.now.run.now pair.before.now pair.after.now pair.first.now pair.second.now c.in_ok-ranges.ranges.items _ _ _ _ _
    c.requires.sized c.requires.normal parts c.requires.below
    (EndsBelow-first c.args.from (concat pair.before.now) (concat c.in-Some-pair_at.ensures.skipped) (subst (λ (l : List (ℕ × ℕ)). EndsBelow c.args.from l) starts below))
    (omega (arith, c.if-start_of_next-to.false, c.start_of_next.ensures))
    more c.ranges_in_last-front.ensures c.ranges_in_next-back.ensures cut c.in_ok-blocks.ensures
