use Rattle.std.proofs.Common.{rules, ◌≡◌, true, get_or, ◌+◌, sym, ◌++◌, ℕ, List, subst}
use Rattle.std.proofs.lemmas.List.{take-append-drop}
use Rattle.moc_text.specs.Lines.{is_line_feed}
use Rattle.moc_text.specs.Private.UniqSegments.{EndsBetweenLines}
use Rattle.moc_text.proofs.UniqSegments.{ends_at}
use Rattle.moc_text.proofs.uniq.parser.split_after_first_line.Goals as goal

pub returns-then-byte-eq10 : goal.returns-then-byte-eq10
returns-then-byte-eq10 c =
    let feed : is_line_feed (get_or c.args.bytes.now c.loop-index.index 0) ≡ true = search rules in (
      rw (c.split_at.ensures.front, c.split_at.ensures.back) (sym (take-append-drop (c.loop-index.index + 1) c.args.bytes.now)),
      λ before. subst (λ (t : List ℕ). EndsBetweenLines (before ++ t)) (sym c.split_at.ensures.front) (ends_at before c.args.bytes.now c.loop-index.index c.loop-index-test.true feed),
    )
