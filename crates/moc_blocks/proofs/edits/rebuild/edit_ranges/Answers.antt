use Rattle.std.proofs.Common.{sym, subst}
use Rattle.std.specs.Prelude.{IfOk}
use Rattle.moc_blocks.specs.Private.Edits.{AreEditedRanges}
use Rattle.moc_blocks.specs.declared.edits.rebuild.EditKind.{EditKind}
use Rattle.moc_blocks.proofs.Cutting.{cut_out, if_ok}
use Rattle.moc_blocks.proofs.edits.rebuild.edit_ranges.Goals as goal

pub returns-in-Remove : goal.returns-in-Remove
returns-in-Remove c =
    subst (λ (e : EditKind). IfOk c.without_range.result (λ v. AreEditedRanges e c.args.from c.args.to c.args.ranges.now v.items)) (sym c.in-Remove.is)
    (if_ok _ _ c.without_range.result (λ v made. cut_out c.args.from c.args.to c.args.ranges.now v.items c.requires.normal c.requires.filled c.requires.within made) c.without_range.ensures)
