use Rattle.std.proofs.Common.{rules, ◌≡◌, ◌<◌, ◌-◌, true, get_or, arith, sym, subst}
use Rattle.moc_text.specs.Lines.{is_line_feed}
use Rattle.moc_text.specs.Private.UniqSegments.{EndsBetweenLines}
use Rattle.moc_text.proofs.UniqSegments.{ends_by}
use Rattle.moc_text.proofs.uniq.parser.split_after_last_line.Goals as goal
use Rattle.moc_text.proofs.uniq.parser.split_after_last_line.Goals.{then-loop-end-test+else-bytes-end-ne10, else-loop-end-test}

pub returns-clause-ends : goal.returns-clause-ends
returns-clause-ends c =
    let last : 0 < c.loop-end.end → is_line_feed (get_or c.args.bytes.now (c.loop-end.end - 1) 0) ≡ true = λ some. elim c.loop-end-test.branch [
      | then-loop-end-test+else-bytes-end-ne10 w ↦ search rules
      | else-loop-end-test w ↦ absurd (omega (arith, some, w.loop-end-test))
    ] in
    subst EndsBetweenLines (sym c.split_at.ensures.front) (ends_by c.args.bytes.now c.loop-end.end c.loop-end.invariant last)
