use Rattle.std.proofs.Common.{◌++◌, List, ℕ, sym, subst}
use Rattle.moc_blocks.specs.RangeList.{IsNormal}
use Rattle.moc_operations.proofs.Bounds.{normal_next, take_rest}
use Rattle.moc_operations.proofs.symmetric_differences.resume_after.Goals as goal

pub resume-requires : goal.resume-requires
resume-requires c =
    subst (λ (l : List (ℕ × ℕ)). IsNormal (l ++ c.args.block.tail)) (sym (take_rest c.args.block.ranges.now c.args.passed)) (normal_next c.args.xs.now c.args.block.ranges.now c.args.block.tail c.args.passed c.requires.parts c.requires.normal)
