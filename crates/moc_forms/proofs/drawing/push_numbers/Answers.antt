use Rattle.std.proofs.Common.{◌≡◌, ℕ, ◌++◌, sym, ap, ◌∙◌, arith, append-nil}
use Rattle.std.proofs.lemmas.List.{append_assoc}
use Rattle.std.specs.String.{string_bytes}
use Rattle.moc_sphere.specs.CellNumber.{CellNumber, cell_number}
use Rattle.moc_sphere.specs.Rings.{row_of, column_of}
use Rattle.moc_forms.specs.Drawing.{labels_at}
use Rattle.moc_forms.proofs.Ranges.{flat_more}
use Rattle.moc_forms.proofs.drawing.push_numbers.Invariants.{labels_below}
use Rattle.moc_forms.proofs.drawing.push_numbers.Goals as goal

pub loop-face-init : goal.loop-face-init
loop-face-init c = sym (append-nil (string_bytes c.args.text.now))

pub loop-face-preserved : goal.loop-face-preserved
loop-face-preserved c =
    let cell : c.of-in-loop-face.result ≡ cell_number 0 c.loop-face.face =
    c.of-in-loop-face.ensures ∙ ap (λ k. cell_number k c.loop-face.face) c.of.ensures in
    let row : c.row_column-row.result.0 ≡ row_of 0 c.loop-face.face =
    c.row_column-row.ensures.row ∙ ap (λ (d : CellNumber). row_of d.order d.index) cell in
    let column : c.row_column-row.result.1 ≡ column_of 0 c.loop-face.face =
    c.row_column-row.ensures.column ∙ ap (λ (d : CellNumber). column_of d.order d.index) cell in
    c.in_ok-push_labels_at.ensures
    ∙ (λ i. c.loop-face.invariant i ++ labels_at c.loop-face.face (row i) (column i))
    ∙ append_assoc (string_bytes c.args.text.now) (labels_below c.loop-face.face)
    (labels_at c.loop-face.face (row_of 0 c.loop-face.face) (column_of 0 c.loop-face.face))
    ∙ ap (λ t. string_bytes c.args.text.now ++ t) (sym (flat_more (λ f. labels_at f (row_of 0 f) (column_of 0 f)) c.loop-face.face))

pub returns : goal.returns
returns c =
    let last : c.loop-face.face ≡ 12 = omega arith in
    c.loop-face.invariant ∙ ap (λ (f : ℕ). string_bytes c.args.text.now ++ labels_below f) last
