use Rattle.std.proofs.Common.{◌≡◌, ◌-◌, ◌≤◌, ◌++◌}
use Rattle.moc_sphere.specs.CellNumber.{cell_count}
use Rattle.moc_forms.specs.Drawing.{mixed_below}
use Rattle.moc_forms.proofs.marks.push_all_mixed.Given as goal

abbrev pub invariant-loop-pixel : goal.invariant-loop-pixel
invariant-loop-pixel l = record {
  within : l.index ≤ cell_count 7;
  marks : l.marks.items ≡ l.fn.marks.items ++ mixed_below l.layers l.index;
}

abbrev pub decreases-loop-pixel : goal.decreases-loop-pixel
decreases-loop-pixel l = cell_count 7 - l.index
