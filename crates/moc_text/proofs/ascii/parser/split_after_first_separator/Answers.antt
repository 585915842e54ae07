use Rattle.std.proofs.Common.{◌+◌, sym, ◌∙◌, ◌++◌, ℕ, List, subst}
use Rattle.std.proofs.lemmas.List.{take-append-drop}
use Rattle.moc_text.specs.Private.AsciiSegments.{EndsBetweenWords}
use Rattle.moc_text.proofs.AsciiSegments.{ends_at}
use Rattle.moc_text.proofs.ascii.parser.split_after_first_separator.Goals as goal

pub returns-then-is_separator : goal.returns-then-is_separator
returns-then-is_separator c = (
  rw (c.split_at.ensures.front, c.split_at.ensures.back) (sym (take-append-drop (c.loop-index.index + 1) c.args.bytes.now)),
  λ before. subst (λ (t : List ℕ). EndsBetweenWords (before ++ t)) (sym c.split_at.ensures.front) (ends_at before c.args.bytes.now c.loop-index.index c.loop-index-test.true (sym c.is_separator.ensures ∙ c.if-is_separator.true)),
)
