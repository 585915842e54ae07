-- One more thread.
use Rattle.std.specs.Prelude.{◌≡◌, ℕ, ◌+◌, ◌-◌, ◌<◌, get_or, vec_items, vec_len, List, [], ◌∷◌, ◌++◌, length}
use Rattle.std.specs.Vec.Iter.{into_iter_items, into_iter_len}
use Rattle.std.proofs.Common.{rules, arith, below_more, ap, ◌∙◌, sym, subst}
use Rattle.std.proofs.lemmas.List.{get_or_append_left, get_or-append_right}
use Rattle.moc_shared.specs.Clients.{IsNewClient}
use Rattle.moc_script.specs.Private.Promises.{IsWorkOf}
use Rattle.moc_script.proofs.crews.threads.start.Goals as goal

get_of_pushed : {A : Type 0} (xs : List A) (x d : A) (n : ℕ) → length xs ≡ n → get_or (xs ++ x ∷ []) n d ≡ x
get_of_pushed xs x d n is =
    let none : n - n ≡ 0 = omega arith in
    get_or-append_right xs (x ∷ []) n n d is (omega arith) ∙ ap (λ i. get_or (x ∷ []) i d) none

pub loop-client-preserved : goal.loop-client-preserved
loop-client-preserved g c =
    let was = c.loop-client.invariant in
    let map = c.args.job.map.now in
    let done = vec_len c.loop-client.handles in
    let rest = c.loop-client.client-iterator in
    let left = c.next.new.self in
    let some : 0 < into_iter_len rest = search rules in
    let first : get_or (into_iter_items rest) 0 c.in-Some.client ≡ c.in-Some.client = grind rules in
    let fresh : IsNewClient map (done + 0) c.in-Some.client = subst (IsNewClient map (done + 0)) first (was.1 0 c.in-Some.client some) in
    let lane_is : c.number-lane.result ≡ done = c.number-lane.ensures ∙ fresh.number ∙ omega arith in
    let grown : vec_len c.push_reserved.new.self ≡ done + 1 = search rules in
    let all = vec_items c.push_reserved.new.self in (
      search rules,
      (λ k d below.
          let shifted : get_or (into_iter_items left) k d ≡ get_or (into_iter_items rest) (k + 1) d = grind rules in
          let place : done + (k + 1) ≡ vec_len c.push_reserved.new.self + k = omega arith in
          subst (λ (n : ℕ). IsNewClient map n (get_or (into_iter_items left) k d)) place
          (subst (IsNewClient map (done + (k + 1))) (sym shifted) (was.1 (k + 1) d (search rules)))),
      (λ k d below. below_more (λ i. IsWorkOf c.args.job.map.now c.args.job.lanes c.args.job.input.now i (get_or all i d).promise) done
          (λ i low. let e = ap (λ l. get_or l i d) c.push_reserved.ensures.items ∙ get_or_append_left (vec_items c.loop-client.handles) _ d i (omega (arith, low, c.loop-client.handles.ok)) in subst (λ h. IsWorkOf c.args.job.map.now c.args.job.lanes c.args.job.input.now i h.promise) (sym e) (was.2 i d low))
          (subst (λ h. IsWorkOf c.args.job.map.now c.args.job.lanes c.args.job.input.now done h.promise) (sym (ap (λ l. get_or l done d) c.push_reserved.ensures.items ∙ get_of_pushed (vec_items c.loop-client.handles) _ d done (omega (arith, c.loop-client.handles.ok))))
          (let spawned = c.in-Ok-spawn_with.ensures.ok in
          record {
            map_is = ap (λ t. t.job.map.now) spawned;
            input_is = ap (λ t. t.job.input.now) spawned;
            lanes_are = ap (λ t. t.job.lanes) spawned;
            lane_is = ap (λ t. t.lane) spawned ∙ lane_is;
          }))
          k (omega arith)),
      rw c.push_reserved.ensures.capacity was.3,
    )
