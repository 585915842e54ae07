-- One more result.
use Rattle.std.proofs.Common.{ℕ, sym, subst}
use Rattle.std.proofs.lemmas.List.{take_all}
use Rattle.moc_script.specs.Private.Gathering.{IsFirstFailure}
use Rattle.moc_script.proofs.Passing.{end_alone, end_done, end_of_both}
use Rattle.moc_script.proofs.crews.gathering.first_failure.Goals as goal
use Rattle.moc_script.proofs.crews.gathering.first_failure.Goals.{in-Err+in-Some, in-Err+in-None, in_default}

pub loop-end-preserved : goal.loop-end-preserved
loop-end-preserved c =
    let ends = c.args.ends.now in
    let i : ℕ = c.loop-end.end-index in
    let x = c.end-item.result in
    let here = sym c.end-item.is in
    let was = c.loop-end.invariant in
    let old = c.loop-end.first in
    let new = c.match-end.first in
    elim c.match-end.branch [
      | in-Err+in-Some w ↦ end_of_both ends i x c.loop-end-test.true here old new was w.in-Some.before w.in-Err.unfinished w.first_of.result w.in-Err.is w.in-Some.is w.first-is w.first_of.ensures.either w.first_of.ensures.first
      | in-Err+in-None w ↦ end_alone ends i x c.loop-end-test.true here old new was w.in-Err.unfinished w.in-Err.is w.in-None.is w.first-is
      | in_default w ↦ end_done ends i x c.loop-end-test.true here old new was w.in_default.field-0 w.in_default.is w.first-is
    ]

pub returns : goal.returns
returns c = subst (λ l. IsFirstFailure l c.loop-end.first) (take_all c.loop-end.end-index c.args.ends.now c.loop-end-test.false) c.loop-end.invariant
