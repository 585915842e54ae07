use Rattle.std.proofs.Common.{◌≡◌, ◌≤◌, ◌<◌, ◌∷◌, subst, rules}
use Rattle.moc_c.specs.Private.Lookup.{IsRest}
use Rattle.moc_c.proofs.Passing.{next_number_of_rest, rest_after_range}
use Rattle.moc_c.proofs.lookup.advance.Goals as goal

pub returns-then-pixel-end-clause-rest : goal.returns-then-pixel-end-clause-rest
returns-then-pixel-end-clause-rest c =
    let is : c.loop-step.rest ≡ (c.in-Some.start, c.in-Some.end) ∷ c.next.new.self = search rules in
    rest_after_range c.args.coverage.now c.loop-step.passed c.in-Some.start c.in-Some.end c.next.new.self
    (subst (λ r. IsRest c.args.coverage.now r c.loop-step.passed) is c.loop-step.invariant.0)

pub returns-then-pixel-end-clause-known : goal.returns-then-pixel-end-clause-known
returns-then-pixel-end-clause-known c =
    let is : c.loop-step.rest ≡ (c.in-Some.start, c.in-Some.end) ∷ c.next.new.self = search rules in
    let high : c.args.pixel < c.in-Some.end = search rules in (
      next_number_of_rest c.args.coverage.now c.loop-step.passed c.in-Some.start c.in-Some.end c.next.new.self
          (subst (λ r. IsRest c.args.coverage.now r c.loop-step.passed) is c.loop-step.invariant.0),
      c.loop-step.invariant.1,
      high,
    )

pub loop-step-preserved : goal.loop-step-preserved
loop-step-preserved c =
    let is : c.loop-step.rest ≡ (c.in-Some.start, c.in-Some.end) ∷ c.next.new.self = search rules in
    let low : c.in-Some.end ≤ c.args.pixel = search rules in (
      rest_after_range c.args.coverage.now c.loop-step.passed c.in-Some.start c.in-Some.end c.next.new.self
          (subst (λ r. IsRest c.args.coverage.now r c.loop-step.passed) is c.loop-step.invariant.0),
      low,
    )
