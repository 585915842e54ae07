use Rattle.std.proofs.Common.{sym, ap, ◌∙◌}
use Rattle.std.specs.List.{concat}
use Rattle.moc_script.proofs.TextLemmas.{merging-split_by_len}
use Rattle.moc_script.proofs.crews.texts.Texts.as_bytes.Goals as goal

pub returns : goal.returns
returns c = c.deref.ensures.value ∙ sym (merging-split_by_len c.self.inside.lens.items c.self.inside.bytes.items c.self.invariant) ∙ ap concat c.self.view_is
