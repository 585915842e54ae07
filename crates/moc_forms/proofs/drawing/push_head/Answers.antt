use Rattle.std.proofs.lemmas.List.{append_assoc}
use Rattle.moc_forms.proofs.drawing.push_head.Goals as goal

pub returns : goal.returns
returns c =
    rw (
      c.in_ok-push_str-2.ensures.bytes,
      c.in_ok-push_count-2.ensures,
      c.in_ok-push_str.ensures.bytes,
      c.in_ok-push_count.ensures,
    ) (simp append_assoc)
