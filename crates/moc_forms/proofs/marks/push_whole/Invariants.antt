use Rattle.std.proofs.Common.{◌≡◌, ◌++◌, drop}
use Rattle.moc_forms.specs.Drawing.{whole_marks}
use Rattle.moc_forms.proofs.marks.push_whole.Given as goal

abbrev pub invariant-loop-cell : goal.invariant-loop-cell
invariant-loop-cell l =
    l.marks.items ++ whole_marks l.colour (drop l.cell-index l.cells) ≡ l.fn.marks.items ++ whole_marks l.colour l.cells
