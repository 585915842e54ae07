use Rattle.std.proofs.lemmas.List.{append_assoc}
use Rattle.moc_forms.specs.Drawing.{marks_path, tone_path}
use Rattle.moc_forms.proofs.drawing.push_tone.Goals as goal

pub returns : goal.returns
unfolding marks_path tone_path
returns c =
    rw (
      c.in_ok-push_str.ensures.bytes,
      c.in_ok-push_marks.ensures,
      c.in_ok-push_path_head.ensures,
      c.tone_colour.ensures,
    ) (simp append_assoc)
