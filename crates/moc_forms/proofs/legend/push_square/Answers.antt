use Rattle.std.proofs.lemmas.List.{append_assoc}
use Rattle.moc_forms.specs.Drawing.{square}
use Rattle.moc_forms.proofs.legend.push_square.Goals as goal

pub returns : goal.returns
unfolding square
returns c =
    rw (
      c.in_ok-push_str-3.ensures.bytes,
      c.in_ok-push_count-2.ensures,
      c.in_ok-push_count.ensures,
      c.in_ok-push_str-2.ensures.bytes,
      c.tone_colour.ensures,
      c.in_ok-push_str.ensures.bytes,
    ) (simp append_assoc)
