use Rattle.std.proofs.Common.{◌∙◌, arith, List, ℕ, refl, subst, sym}
use Rattle.moc_blocks.specs.RangeList.{IsNormal}
use Rattle.moc_blocks.specs.Blocks.{concat}
use Rattle.moc_blocks.specs.Private.Edits.{AreEditedRanges}
use Rattle.moc_blocks.proofs.Passing.{all_ranges-blocks}
use Rattle.moc_blocks.specs.Private.Built.{EndsBelow}
use Rattle.moc_blocks.proofs.Editing.{some_of, node_normal, run_normal, node_blocks_after_regrowth}
use Rattle.moc_blocks.proofs.edits.rebuild.edit_block.Goals as goal

pub find_run-requires : goal.find_run-requires
find_run-requires c = subst IsNormal (sym (all_ranges-blocks c.blocks-2.result.now)) (node_normal (concat c.args.around.now.before.now) c.blocks-2.result.now c.args.around.now.run.now (concat c.args.around.now.after.now) c.blocks-2.ensures.value c.requires.normal)

pub edit_ranges-requires-clause-normal : goal.edit_ranges-requires-clause-normal
edit_ranges-requires-clause-normal c =
    subst IsNormal (sym c.ranges-2.ensures.value) (run_normal (concat c.args.around.now.before.now) c.blocks-2.result.now c.args.around.now.run.now c.in-Some.place.before.now c.in-Some.place.after.now (concat c.args.around.now.after.now) c.in-Some.place.run.now c.blocks-2.ensures.value c.in-Some.ensures.parts c.requires.normal)

pub returns : goal.returns
returns c =
    let more : AreEditedRanges c.args.edit c.args.from c.args.to c.in-Some.place.run.now c.in_ok-ranges.ranges.items = subst (λ (l : List (ℕ × ℕ)). AreEditedRanges c.args.edit c.args.from c.args.to l c.in_ok-ranges.ranges.items) c.ranges-2.ensures.value c.in_ok-ranges.ensures in
    let cut = some_of _ _ _ c.in-Some-2.is c.in_ok-cut.ensures in
    let parts = sym c.blocks-2.ensures.value ∙ c.in-Some.ensures.parts in
    record {
      parts = parts;
      filled = cut.filled;
      normal = subst IsNormal (sym cut.parts) more.normal;
      node_blocks = node_blocks_after_regrowth c.args.edit c.args.from c.args.to (concat c.args.around.now.before.now) (concat c.args.around.now.after.now) c.args.around.now.run.now c.in-Some.place.before.now c.in-Some.place.after.now c.in-Some.place.run.now c.in_ok-ranges.ranges.items _ _ _ _ _
          c.requires.sized c.requires.normal parts c.requires.below
          (subst (λ (l : List (ℕ × ℕ)). EndsBelow c.args.from l) (all_ranges-blocks c.in-Some.place.before.now) c.in-Some.ensures.below)
          (omega (arith, c.if-start_of_next-to.false, c.start_of_next.ensures))
          more c.ranges_in_last-front.ensures c.ranges_in_next-back.ensures cut refl;
    }
