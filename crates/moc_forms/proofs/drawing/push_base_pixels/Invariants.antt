use Rattle.std.proofs.Common.{◌≡◌, ◌++◌, ℕ, List}
use Rattle.std.specs.List.{flat_map, range_with_len}
use Rattle.std.specs.String.{string_bytes}
use Rattle.moc_sphere.specs.CellNumber.{cell_number}
use Rattle.moc_forms.specs.Drawing.{cell_diamonds}
use Rattle.moc_forms.proofs.drawing.push_base_pixels.Given as goal

-- the diamonds of the base pixels below a number
abbrev pub base_diamonds_below : ℕ → List ℕ
base_diamonds_below n = flat_map (λ f. cell_diamonds (cell_number 0 f)) (range_with_len 0 n)

abbrev pub invariant-loop-face : goal.invariant-loop-face
invariant-loop-face l = string_bytes l.text ≡ string_bytes l.fn.text ++ base_diamonds_below l.face
