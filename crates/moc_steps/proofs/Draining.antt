-- The steps to the end of a world, one by one.
use Rattle.std.proofs.Common.{◌≡◌, ℕ, suc, ◌+◌, ◌*◌, ◌^◌, ◌<◌, ◌≤◌, Bool, true, false, cond, ◌&&◌, T, List, [], ◌∷◌}
use Rattle.std.proofs.Common.{◌++◌, length, Option, None, Some, nat_eq, nat_lt, inl, inr, ne_eqb, sum_by, count_by}
use Rattle.std.proofs.Common.{refl, sym, ap, subst, ◌∙◌, arith, eq-eqb}
use Rattle.std.proofs.lemmas.List.Sums.{sum_by-cons}
use Rattle.std.specs.Ordering.{nat_cmp, is_lt}
use Rattle.std.specs.FinMap as map
use Rattle.std.specs.FinMap.{find, is_sorted}
use Rattle.std.specs.FinMap.Entries.{below_all}
use Rattle.moc_parts.specs.Batches.{batches}
use Rattle.moc_parts.specs.declared.command.Command.{Command}
use Rattle.moc_steps.specs.Machine.{Running, Clients, ArePermitted, refusal, twelve, world_after}
use Rattle.moc_steps.specs.Machine as machine
use Rattle.moc_steps.specs.Theorems.{IsReachable}
use Rattle.moc_steps.specs.Orders.{operations, AreProgress, is_progress, steps_left}
use Rattle.moc_steps.specs.Played.{BatchWorld, LeadsTo}
use Rattle.moc_steps.proofs.Cases.{steps_wanted}
use Rattle.moc_steps.proofs.Basics.{same_or, length-map}
use Rattle.moc_steps.proofs.Preserved.{AreSmall}
use Rattle.std.proofs.lemmas.Bool.Decides.{nat_tests}
use Rattle.std.specs.declared.cmp.Ordering.TheVariants.{Less, Equal, Greater}
use Rattle.std.specs.Cmp.{unsigned_tied}
use Rattle.moc_steps.proofs.Headline.{run_append}
use Rattle.moc_steps.proofs.Measure.{steps_bounded}
use Rattle.moc_steps.proofs.AnyObject.{permitted_on, ends_well, reached_explained}

progress_of_append : (front back : List (machine.Step (List Command))) → AreProgress front → AreProgress back → AreProgress (front ++ back)
progress_of_append [] back h k = k
progress_of_append (s ∷ front) back h k = (h.0, progress_of_append front back h.1 k)

length_on : {X : Type 0} (xs : List X) (x : X) → length (xs ++ x ∷ []) ≡ length xs + 1
length_on [] x = omega arith
length_on (y ∷ xs) x = let k : length (xs ++ x ∷ []) ≡ length xs + 1 = length_on xs x in omega arith

-- further steps from a reached world
leads_by_steps : (old new : BatchWorld) (steps : List (machine.Step (List Command))) (n : ℕ) → IsReachable batches old → length steps ≡ n → ArePermitted batches old.locks steps → AreProgress steps → machine.world_after_all batches old steps ≡ new → LeadsTo old n new
leads_by_steps old new steps n reached count permitted progress leads =
    let inv = reached_explained batches old reached in
    record {
      steps = steps;
      count = count;
      permitted = permitted;
      progress = progress;
      leads = leads;
      bounded = subst (λ k. k ≤ steps_left batches old.locks.clients) count (steps_bounded batches reached.start (operations reached.steps) old inv.0 inv.1 steps permitted progress);
      ends = λ start before h e. ends_well batches start before steps h (subst (λ (w : BatchWorld). ArePermitted batches w.locks steps) (sym e) permitted) progress;
    }

pub leads_to_itself : (old new : BatchWorld) → IsReachable batches old → new ≡ old → LeadsTo old 0 new
leads_to_itself old new reached same = leads_by_steps old new [] 0 reached refl tt tt (sym same)

pub leads_one_step : (old world new : BatchWorld) (n : ℕ) (step : machine.Step (List Command)) → IsReachable batches old → LeadsTo old n world → refusal batches world.locks step ≡ None → is_progress step ≡ true
    → new ≡ world_after batches world step → LeadsTo old (n + 1) new
leads_one_step old world new n step reached h permitted progress is =
    leads_by_steps old new (h.steps ++ step ∷ []) (n + 1) reached
    (length_on h.steps step ∙ ap (λ k. k + 1) h.count)
    (permitted_on batches old h.steps (step ∷ []) h.permitted (ap (λ (w : BatchWorld). refusal batches w.locks step) h.leads ∙ permitted, tt))
    (progress_of_append h.steps (step ∷ []) h.progress (progress, tt))
    (run_append batches old h.steps (step ∷ []) ∙ ap (λ (w : BatchWorld). world_after batches w step) h.leads ∙ sym is)

-- The number of steps to the end is bounded: at most 37 steps for each client

sum_short : {A : Type 0} (f : A → ℕ) (n : ℕ) → ((x : A) → f x ≤ n) → (xs : List A) → sum_by f xs ≤ n * length xs
sum_short f n each [] = omega arith
sum_short f n each (x ∷ xs) =
    let here : f x ≤ n = each x in
    let rest : sum_by f xs ≤ n * length xs = sum_short f n each xs in
    let whole : sum_by f (x ∷ xs) ≡ f x + sum_by f xs = sum_by-cons f x xs in
    let occurrences : n * suc (length xs) ≡ n + n * length xs = omega arith in
    omega arith

count_twelve : (test : ℕ → Bool) → count_by test twelve ≤ 12
count_twelve test =
    let k : count_by test twelve ≤ 1 * length twelve = sum_short (λ x. cond (test x) 1 0) 1 (λ x. one (test x)) twelve in omega arith
  where
    one : (t : Bool) → cond t 1 0 ≤ 1
    one true = omega arith
    one false = omega arith

few : (x : Option (Running (List Command))) → steps_wanted batches x ≤ 37
few None = omega arith
few (Some r) = let k : count_by (batches.footprint r.operation) twelve ≤ 12 = count_twelve (batches.footprint r.operation) in omega arith

left_short : (m : Clients (List Command)) → length (map.keys m) ≤ 2 ^ 32 → steps_left batches m < 2 ^ 64
left_short m l =
    let k : steps_left batches m ≤ 37 * length (map.keys m) = sum_short (λ c. steps_wanted batches (map.get m c)) 37 (λ c. few (map.get m c)) (map.keys m) in omega arith

less_of : (x y : ℕ) → T (is_lt (nat_cmp x y)) → x < y
less_of x y h = let t : nat_lt x y ≡ true = go (nat_lt x y) (nat_eq x y) h in grind (arith, nat_tests)
  where
    go : (b e : Bool) → T (is_lt (cond b Less (cond e Equal Greater))) → b ≡ true
    go true e h = refl
    go false true h = absurd h
    go false false h = absurd h

split_conjunction : (a b : Bool) → T (a && b) → T a × T b
split_conjunction true b h = (tt, h)
split_conjunction false b h = absurd h

-- every key in the list is below n
abbrev AreBelow : ℕ → List (ℕ × Running (List Command)) → Type 0
AreBelow n es = (q : ℕ) (r : Running (List Command)) → find nat_cmp q es ≡ Some r → q < n

below_head : (n : ℕ) (e : ℕ × Running (List Command)) (es : List (ℕ × Running (List Command))) → AreBelow n (e ∷ es) → e.0 < n
below_head n e es h = h e.0 e.1 (ap (λ b. cond b (Some e.1) (find nat_cmp e.0 es)) (unsigned_tied e.0 e.0 ∙ eq-eqb e.0 e.0 refl))

below_tail : (n : ℕ) (e : ℕ × Running (List Command)) (es : List (ℕ × Running (List Command))) → AreBelow n (e ∷ es) → AreBelow n es
below_tail n e es h q r is = elim (same_or q e.0) [
  | inl same ↦ subst (λ x. x < n) (sym same) (below_head n e es h)
  | inr d ↦ h q r (ap (λ b. cond b (Some e.1) (find nat_cmp q es)) (unsigned_tied q e.0 ∙ ne_eqb q e.0 d) ∙ is)
]

sorted_entries_bounded : (n x : ℕ) (es : List (ℕ × Running (List Command))) → x < n → T (below_all nat_cmp x es) → T (is_sorted nat_cmp es) → AreBelow n es → suc x + length es ≤ n
sorted_entries_bounded n x [] l above sorted below = omega arith
sorted_entries_bounded n x (e ∷ es) l above sorted below =
    let a = split_conjunction (is_lt (nat_cmp x e.0)) (below_all nat_cmp x es) above in
    let s = split_conjunction (below_all nat_cmp e.0 es) (is_sorted nat_cmp es) sorted in
    let over : x < e.0 = less_of x e.0 a.0 in
    let rest : suc e.0 + length es ≤ n = sorted_entries_bounded n e.0 es (below_head n e es below) s.0 s.1 (below_tail n e es below) in
    omega arith

sorted_entry_count_bounded : (n : ℕ) (es : List (ℕ × Running (List Command))) → T (is_sorted nat_cmp es) → AreBelow n es → length es ≤ n
sorted_entry_count_bounded n [] sorted below = omega arith
sorted_entry_count_bounded n (e ∷ es) sorted below =
    let s = split_conjunction (below_all nat_cmp e.0 es) (is_sorted nat_cmp es) sorted in
    let rest : suc e.0 + length es ≤ n = sorted_entries_bounded n e.0 es (below_head n e es below) s.0 s.1 (below_tail n e es below) in
    omega arith

key_count_bounded : (m : Clients (List Command)) → AreSmall m → length (map.keys m) ≤ 2 ^ 32
key_count_bounded m h =
    let es : List (ℕ × Running (List Command)) = map.entries m in
    let k : length es ≤ 2 ^ 32 = sorted_entry_count_bounded (2 ^ 32) es (map.entries_sorted m) (λ q r is. h q r (map.get-entries m q ∙ is)) in
    subst (λ n. n ≤ 2 ^ 32) (sym (length-map (λ (e : ℕ × Running (List Command)). e.0) es)) k

pub short_way : (m : Clients (List Command)) → AreSmall m → steps_left batches m < 2 ^ 64
short_way m h = left_short m (key_count_bounded m h)
