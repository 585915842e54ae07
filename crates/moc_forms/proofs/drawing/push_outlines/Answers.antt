use Rattle.std.proofs.lemmas.List.{append_assoc}
use Rattle.moc_forms.specs.Drawing.{outlines}
use Rattle.moc_forms.proofs.drawing.push_outlines.Goals as goal

pub returns : goal.returns
unfolding outlines
returns c =
    rw (c.in_ok-push_str-2.ensures.bytes, c.in_ok-push_base_pixels.ensures, c.in_ok-push_str.ensures.bytes)
    (simp append_assoc)
