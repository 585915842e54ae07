use Rattle.std.proofs.Common.{◌≡◌, ◌++◌, drop, ℕ, List}
use Rattle.std.specs.Prelude.{◌==◌}
use Rattle.std.specs.List.{filter}
use Rattle.std.specs.String.{string_bytes}
use Rattle.moc_forms.specs.Drawing.{TonedCell, mark_diamonds}
use Rattle.moc_forms.proofs.drawing.push_marks.Given as goal

-- the diamonds of the marks of a tone
abbrev of_tone : ℕ → List TonedCell → List ℕ
of_tone tone marks = mark_diamonds (filter (λ m. m.1 == tone) marks)

abbrev pub invariant-loop-cell : goal.invariant-loop-cell
invariant-loop-cell l =
    string_bytes l.text ++ of_tone l.tone (drop l.cell-index l.marks)
    ≡ string_bytes l.fn.text ++ of_tone l.tone l.marks
