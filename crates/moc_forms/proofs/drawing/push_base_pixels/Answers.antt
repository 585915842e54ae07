use Rattle.std.proofs.Common.{◌≡◌, ℕ, ◌++◌, sym, ap, ◌∙◌, arith, append-nil}
use Rattle.std.proofs.lemmas.List.{append_assoc}
use Rattle.std.specs.String.{string_bytes}
use Rattle.moc_sphere.specs.CellNumber.{cell_number}
use Rattle.moc_forms.specs.Drawing.{cell_diamonds}
use Rattle.moc_forms.proofs.Ranges.{flat_more}
use Rattle.moc_forms.proofs.drawing.push_base_pixels.Invariants.{base_diamonds_below}
use Rattle.moc_forms.proofs.drawing.push_base_pixels.Goals as goal

pub loop-face-init : goal.loop-face-init
loop-face-init c = sym (append-nil (string_bytes c.args.text.now))

pub loop-face-preserved : goal.loop-face-preserved
loop-face-preserved c =
    let cell : c.of-in-loop-face.result ≡ cell_number 0 c.loop-face.face =
    c.of-in-loop-face.ensures ∙ ap (λ k. cell_number k c.loop-face.face) c.of.ensures in
    c.in_ok-push_cell.ensures
    ∙ (λ i. c.loop-face.invariant i ++ cell_diamonds (cell i))
    ∙ append_assoc (string_bytes c.args.text.now) (base_diamonds_below c.loop-face.face)
    (cell_diamonds (cell_number 0 c.loop-face.face))
    ∙ ap (λ t. string_bytes c.args.text.now ++ t) (sym (flat_more (λ f. cell_diamonds (cell_number 0 f)) c.loop-face.face))

pub returns : goal.returns
returns c =
    let last : c.loop-face.face ≡ 12 = omega arith in
    c.loop-face.invariant ∙ ap (λ (f : ℕ). string_bytes c.args.text.now ++ base_diamonds_below f) last
