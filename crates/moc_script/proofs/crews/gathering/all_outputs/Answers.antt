-- One more result, and all of them.
use Rattle.std.specs.Prelude.{◌≡◌, ◌+◌, ◌<◌, get_or, vec_items, vec_len, length, List, Option, None, Result, Ok, Err}
use Rattle.std.specs.Vec.Iter.{into_iter_items, into_iter_len}
use Rattle.std.proofs.Common.{rules, arith, inr, below_more, ap, ◌∙◌, sym, subst}
use Rattle.std.proofs.lemmas.List.{get_or_default}
use Rattle.moc_script.specs.Private.LaneEnds.{IsLaneEnd}
use Rattle.moc_script.specs.declared.crews.lane.LaneOutput.{LaneOutput}
use Rattle.moc_script.specs.declared.crews.lane.LaneFailure.{LaneFailure}
use Rattle.moc_script.specs.Private.Gathering.{IsFirstFailure}
use Rattle.moc_script.proofs.crews.gathering.all_outputs.Goals as goal

-- there is no first failure, so there is no failure
none_first : {l ends : List (Result LaneOutput LaneFailure)} (first : Option LaneFailure) → l ≡ ends → IsFirstFailure l first → first ≡ None → IsFirstFailure ends None
none_first {l} {ends} first same is none = subst (λ x. IsFirstFailure x None) same (subst (IsFirstFailure l) none is)

pub loop-end-preserved : goal.loop-end-preserved
loop-end-preserved c =
    let was = c.loop-end.invariant in
    let done = vec_len c.loop-end.done in
    let rest = c.loop-end.end-iterator in
    let left = c.next.new.self in
    let all = vec_items c.push.new.self in
    let ends = vec_items c.args.ends in
    let some : 0 < into_iter_len rest = search rules in
    let grown : vec_len c.push.new.self ≡ done + 1 = search rules in
    let first : get_or (into_iter_items rest) 0 c.in-Some-end.end ≡ c.in-Some-end.end = grind rules in
    let zero_more : done + 0 ≡ done = omega arith in
    let found : get_or ends done c.in-Some-end.end ≡ Ok c.in-Ok.end = ap (λ n. get_or ends n c.in-Some-end.end) (sym zero_more) ∙ sym (was.1 0 c.in-Some-end.end some) ∙ first ∙ c.in-Ok.is in
    let inside : done < length ends = omega (arith, was.0, c.args.ends.ok) in (
      search rules,
      (λ k d below.
          let shifted : get_or (into_iter_items left) k d ≡ get_or (into_iter_items rest) (k + 1) d = grind rules in
          let place : done + (k + 1) ≡ vec_len c.push.new.self + k = omega arith in
          shifted ∙ was.1 (k + 1) d (search rules) ∙ ap (λ n. get_or ends n d) place),
      λ k d e below. below_more (λ i. get_or ends i e ≡ Ok (get_or all i d)) done
          (λ i low. was.2 i d e low ∙ ap Ok (sym (c.in-Ok-push.ensures.by_index.0 i d low)))
          (get_or_default ends done e c.in-Some-end.end inside ∙ found ∙ ap Ok (sym (c.in-Ok-push.ensures.by_index.1 d (search rules)))) k (omega arith),
    )

-- no result is a failure if there is no first one
pub unreachable-requires : goal.unreachable-requires
unreachable-requires c =
    let was = c.loop-end.invariant in
    let done = vec_len c.loop-end.done in
    let rest = c.loop-end.end-iterator in
    let ends = vec_items c.args.ends in
    let end = c.in-Some-end.end in
    let some : 0 < into_iter_len rest = search rules in
    let first : get_or (into_iter_items rest) 0 end ≡ end = grind rules in
    let zero_more : done + 0 ≡ done = omega arith in
    let found : get_or ends done end ≡ end = ap (λ n. get_or ends n end) (sym zero_more) ∙ sym (was.1 0 end some) ∙ first in
    let inside : done < length ends = omega (arith, was.0, c.args.ends.ok) in
    let e : LaneFailure = c.in_default-end.field-0 in
    let failed : get_or ends done (Err e) ≡ Err e = get_or_default ends done (Err e) end inside ∙ found ∙ c.in_default-end.is in
    none_first c.first_failure.result c.deref.ensures.value c.first_failure.ensures c.in_default.is e (done, inside, failed)

pub returns-in_default-push-clause-first : goal.returns-in_default-push-clause-first
returns-in_default-push-clause-first c = inr (none_first c.first_failure.result c.deref.ensures.value c.first_failure.ensures c.in_default.is, c.line_after_last.ensures)

pub returns-clause-done : goal.returns-clause-done
returns-clause-done c map lanes input ends =
    let was = c.loop-end.invariant in
    let done = vec_len c.loop-end.done in
    let none : into_iter_len c.loop-end.end-iterator ≡ 0 = search rules in
    let all : length c.loop-end.done.items ≡ lanes = omega (arith, was.0, none, ends.0, c.args.ends.ok, c.loop-end.done.ok) in (
      all,
      λ lane d low.
          let inside : lane < done = omega (arith, c.loop-end.done.ok) in
          subst (IsLaneEnd map lanes input lane) (was.2 lane d (Ok d) inside) (ends.1 lane (Ok d) low),
    )
