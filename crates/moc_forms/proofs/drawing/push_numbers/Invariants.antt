use Rattle.std.proofs.Common.{◌≡◌, ◌++◌, ℕ, List}
use Rattle.std.specs.List.{flat_map, range_with_len}
use Rattle.std.specs.String.{string_bytes}
use Rattle.moc_sphere.specs.Rings.{column_of, row_of}
use Rattle.moc_forms.specs.Drawing.{labels_at}
use Rattle.moc_forms.proofs.drawing.push_numbers.Given as goal

-- the numbers of the base pixels below a number
abbrev pub labels_below : ℕ → List ℕ
labels_below n = flat_map (λ f. labels_at f (row_of 0 f) (column_of 0 f)) (range_with_len 0 n)

abbrev pub invariant-loop-face : goal.invariant-loop-face
invariant-loop-face l = string_bytes l.text ≡ string_bytes l.fn.text ++ labels_below l.face
