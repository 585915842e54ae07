use Rattle.std.proofs.Common.{rules, ◌≡◌, ◌<◌, ◌-◌, true, get_or, arith, sym, subst}
use Rattle.moc_text.specs.Ascii.{is_separator}
use Rattle.moc_text.specs.Private.AsciiSegments.{EndsBetweenWords}
use Rattle.moc_text.proofs.AsciiSegments.{ends_by}
use Rattle.moc_text.proofs.ascii.parser.split_after_last_separator.Goals as goal
use Rattle.moc_text.proofs.ascii.parser.split_after_last_separator.Goals.{then-loop-end-test+else-not-is_separator, else-loop-end-test}

pub returns-clause-ends : goal.returns-clause-ends
returns-clause-ends c =
    let last : 0 < c.loop-end.end → is_separator (get_or c.args.bytes.now (c.loop-end.end - 1) 0) ≡ true = λ some. elim c.loop-end-test.branch [
      | then-loop-end-test+else-not-is_separator w ↦ search rules
      | else-loop-end-test w ↦ absurd (omega (arith, some, w.loop-end-test))
    ] in
    subst EndsBetweenWords (sym c.split_at.ensures.front) (ends_by c.args.bytes.now c.loop-end.end c.loop-end.invariant last)
