use Rattle.std.proofs.Common.{◌≡◌, ℕ, ◌+◌, ◌-◌, ◌/◌, ◌<◌, ◌≤◌, arith, subst, sym, inl, inr}
use Rattle.std.proofs.lemmas.Bool.{cases_lt}
use Rattle.moc_blocks.specs.Private.Walks.{IsSkipping}
use Rattle.moc_blocks.proofs.Passing.{skip_left, skip_right}
use Rattle.moc_blocks.proofs.runs.count_ended_from.Goals as goal

-- what holds after the step, and without it, holds after the step that is made if the end is at most the limit
stepped : (holds : ℕ → Type 0) (low half step end limit : ℕ) → (end ≤ limit → step ≡ half) → (limit < end → step ≡ 0)
    → (end ≤ limit → holds (low + half)) → (limit < end → holds low) → holds (low + step)
stepped holds low half step end limit ended later past before = elim (cases_lt limit end) [
  | inl lt ↦ let same : low + 0 ≡ low = omega arith in subst (λ n. holds (low + n)) (sym (later lt)) (subst holds (sym same) (before lt))
  | inr le ↦ subst (λ n. holds (low + n)) (sym (ended le)) (past le)
]

pub loop-size-preserved : goal.loop-size-preserved
loop-size-preserved g c =
    let size : ℕ = c.loop-size.size in
    let skips = λ (low : ℕ). IsSkipping g.T.Run.ranges c.args.runs.now c.args.limit low (size - size / 2) in
    stepped skips c.loop-size.low (size / 2) c.step_past-low.result c.end.result c.args.limit c.step_past-low.ensures.ended c.step_past-low.ensures.later
    (λ le. skip_right g.T.Run.ranges c.args.runs.now c.args.limit c.loop-size.low size c.index-runs-low.result c.requires.normal c.loop-size.invariant (omega (arith, c.loop-size-test.true)) c.index-runs-low.is c.end.ensures.some (omega (arith, c.end.ensures.value, le)))
    (λ lt. skip_left g.T.Run.ranges c.args.runs.now c.args.limit c.loop-size.low size c.index-runs-low.result c.loop-size.invariant (omega (arith, c.loop-size-test.true)) c.index-runs-low.is (omega (arith, c.end.ensures.value, lt)))
