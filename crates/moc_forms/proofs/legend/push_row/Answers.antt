use Rattle.std.proofs.lemmas.List.{append_assoc}
use Rattle.moc_forms.specs.Drawing.{legend_row}
use Rattle.moc_forms.proofs.legend.push_row.Goals as goal

pub returns : goal.returns
unfolding legend_row
returns c =
    rw (
      c.in_ok-push_str-2.ensures.bytes,
      c.in_ok-push_name.ensures,
      c.in_ok-push_str.ensures.bytes,
      c.in_ok-push_count.ensures,
      c.in_ok-push_square-4.ensures,
      c.in_ok-push_square-3.ensures,
      c.in_ok-push_square-2.ensures,
      c.in_ok-push_square.ensures,
    ) (simp append_assoc)
