-- One more client is taken in.
use Rattle.std.specs.Prelude.{◌≡◌, ℕ, ◌+◌, ◌<◌, get_or, vec_items, vec_len, List, length, Ok, Some}
use Rattle.std.specs.Vec.Iter.{into_iter_items, into_iter_len}
use Rattle.std.proofs.Common.{rules, arith, sym, subst}
use Rattle.moc_script.specs.declared.crews.lane.LaneOutput.{LaneOutput}
use Rattle.moc_shared.specs.Clients.{IsClientOf}
use Rattle.moc_script.specs.Private.LaneEnds.{IsLaneEnd}
use Rattle.moc_script.specs.Private.Gathering.{IsGathered}
use Rattle.moc_script.proofs.Gathered.{lane_of_end, gather_more}
use Rattle.moc_script.proofs.crews.gathering.take_in_all.Goals as goal

pub loop-end-init : goal.loop-end-init
loop-end-init c =
    let rest = c.into_iter-end-iterator.result in
    let none : vec_len c.new-answers.result ≡ 0 = search rules in
    let same : into_iter_items rest ≡ c.args.done.items = search rules in
    let long : into_iter_len rest ≡ length c.args.done.items = search rules in (
      omega (arith, none, long, c.requires.done.0),
      (λ j d low.
          let place : j ≡ vec_len c.new-answers.result + j = omega (arith, none) in
          subst (λ (n : ℕ). IsLaneEnd c.args.job.map.now c.args.job.lanes c.args.job.input.now n (Ok (get_or (into_iter_items rest) j d))) place
          (subst (λ (l : List LaneOutput). IsLaneEnd c.args.job.map.now c.args.job.lanes c.args.job.input.now j (Ok (get_or l j d))) (sym same)
          (c.requires.done.1 j d (omega (arith, long, c.requires.done.0))))),
      none,
    )

pub both-requires-clause-second : goal.both-requires-clause-second
both-requires-clause-second c =
    let rest = c.loop-end.end-iterator in
    let some : 0 < into_iter_len rest = search rules in
    let first : get_or (into_iter_items rest) 0 c.in-Some.end ≡ c.in-Some.end = grind rules in
    let found = c.loop-end.invariant.1 0 c.in-Some.end some in
    subst (λ (q : LaneOutput). IsClientOf c.args.job.map.now q.client) first found.0

pub loop-end-preserved : goal.loop-end-preserved
loop-end-preserved c =
    let was = c.loop-end.invariant in
    let map = c.args.job.map.now in
    let lanes : ℕ = c.args.job.lanes in
    let input = c.args.job.input.now in
    let k = vec_len c.loop-end.answers in
    let rest = c.loop-end.end-iterator in
    let left = c.next.new.self in
    let some : 0 < into_iter_len rest = search rules in
    let first : get_or (into_iter_items rest) 0 c.in-Some.end ≡ c.in-Some.end = grind rules in
    let grown : vec_len c.push.new.self ≡ k + 1 = search rules in
    let zero_more : k + 0 ≡ k = omega arith in
    let here : IsLaneEnd map lanes input k (Ok c.in-Some.end) =
    subst (λ (n : ℕ). IsLaneEnd map lanes input n (Ok c.in-Some.end)) zero_more
    (subst (λ (q : LaneOutput). IsLaneEnd map lanes input (k + 0) (Ok q)) first (was.1 0 c.in-Some.end some)) in (
      search rules,
      (λ j d low.
          let shifted : get_or (into_iter_items left) j d ≡ get_or (into_iter_items rest) (j + 1) d = grind rules in
          let place : k + (j + 1) ≡ vec_len c.push.new.self + j = omega arith in
          subst (λ (n : ℕ). IsLaneEnd map lanes input n (Ok (get_or (into_iter_items left) j d))) place
          (subst (λ (q : LaneOutput). IsLaneEnd map lanes input (k + (j + 1)) (Ok q)) (sym shifted) (was.1 (j + 1) d (search rules)))),
      (subst (λ (n : ℕ). IsGathered map n lanes input (vec_items c.push.new.self) (Some c.both.result)) (sym grown)
          (subst (λ (l : List (List (List ℕ))). IsGathered map (k + 1) lanes input l (Some c.both.result)) (sym c.in_ok-push.ensures.items)
          (gather_more map lanes input (vec_items c.loop-end.answers) k c.loop-end.all c.in-Some.end.client c.both.result c.in-Some.end.answers (omega (arith, c.loop-end.answers.ok)) was.2 c.both.ensures.map c.both.ensures.both
          (lane_of_end map lanes input k c.in-Some.end here)))),
    )
