use Rattle.std.proofs.Common.{ℕ, None, get_or, inl, inr, sym, ap, ◌∙◌, arith}
use Rattle.moc_parts.specs.Batches.{batches}
use Rattle.moc_steps.specs.Machine.{holder}
use Rattle.moc_steps.specs.Played.{BatchWorld}
use Rattle.moc_steps.proofs.Basics.{none_or_some, same_or}
use Rattle.moc_steps.proofs.Ascending.{IsTaken, all_parts_are_first, last_part_not_taken}
use Rattle.moc_steps.proofs.world.World.next.Goals as goal

pub loop-part-init : goal.loop-part-init
loop-part-init c =
    let all = all_parts_are_first c.into_iter-part-iterator.result.iter.rest.now
    (ap (λ r. r.iter.rest.now) c.into_iter-part-iterator.ensures.into_iter_gives ∙ ap (λ r. r.rest.now) c.rev-part-items.ensures.source ∙ c.iter.ensures.rest) in (
      all.1,
      λ d l k. absurd (omega (arith, all.0, l, k)),
    )

pub step_of_holder-requires : goal.step_of_holder-requires
step_of_holder-requires c =
    let b : ℕ = c.in-Some.part.now in
    let taken : IsTaken c.loop-part.part-iterator.iter.rest.now c.next.new.self.iter.rest.now b =
    last_part_not_taken c.loop-part.part-iterator.iter.rest.now c.next.new.self.iter.rest.now b c.in-Some.ensures.steps c.loop-part.invariant.0 in (
      sym (ap (λ (w : BatchWorld). holder batches w.locks.clients b) c.self.view_is) ∙ sym (c.self.invariant.held b taken.below)
          ∙ ap (λ k. get_or c.self.inside.holders k None) (sym c.index.ensures.value) ∙ c.in-Some-holders.is,
      λ d l k. c.loop-part.invariant.1 d (omega (arith, taken.fewer, l)) k,
    )

pub loop-part-preserved : goal.loop-part-preserved
loop-part-preserved c =
    let b : ℕ = c.in-Some.part.now in
    let taken : IsTaken c.loop-part.part-iterator.iter.rest.now c.next.new.self.iter.rest.now b =
    last_part_not_taken c.loop-part.part-iterator.iter.rest.now c.next.new.self.iter.rest.now b c.in-Some.ensures.steps c.loop-part.invariant.0 in (
      taken.ascending,
      λ d l k. elim (same_or d b) [
        | inl e ↦ ap (holder batches c.args.self.now.locks.clients) e ∙ sym (ap (λ (w : BatchWorld). holder batches w.locks.clients b) c.self.view_is) ∙ sym (c.self.invariant.held b taken.below)
            ∙ elim (none_or_some (get_or c.self.inside.holders b None)) [
              | inl none ↦ none
              | inr some ↦ absurd (c.in_default.not-Some some.0 (ap (λ k. get_or c.self.inside.holders k None) c.index.ensures.value ∙ some.1))
            ]
        | inr other ↦ c.loop-part.invariant.1 d (omega (arith, taken.fewer, taken.left, l, other)) k
      ],
    )

pub step_of_first-requires : goal.step_of_first-requires
step_of_first-requires c = λ b l. c.loop-part.invariant.1 b (omega (arith, c.in-None.ensures.steps.0)) l
