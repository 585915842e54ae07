use Rattle.std.proofs.lemmas.List.{append_assoc}
use Rattle.moc_forms.specs.Drawing.{labels}
use Rattle.moc_forms.proofs.drawing.push_labels.Goals as goal

pub returns : goal.returns
unfolding labels
returns c =
    rw (
      c.in_ok-push_str-2.ensures.bytes,
      c.in_ok-push_numbers.ensures,
      c.in_ok-push_str.ensures.bytes,
    ) (simp append_assoc)
