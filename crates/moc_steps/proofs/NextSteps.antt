-- The next step of a world with a midway client.
use Rattle.std.proofs.Common.{◌≡◌, ℕ, ◌<◌, Bool, true, false, not, ◌&&◌, ◌||◌, ◌⊎◌, inl, inr, List, [], ◌∷◌, length}
use Rattle.std.proofs.Common.{Option, None, Some, IfSome, is_some, nat_eq, nat_lt, option_map, refl, sym, ap, ◌∙◌}
use Rattle.std.proofs.Common.{arith, eq-eqb}
use Rattle.std.proofs.lemmas.Bool.Decides.{nat_tests}
use Rattle.std.specs.List.{list_any}
use Rattle.std.specs.List.Sorted.{IsStrictlySortedBy}
use Rattle.std.specs.Ordering.{nat_cmp}
use Rattle.std.specs.FinSet as set
use Rattle.std.specs.FinMap as map
use Rattle.moc_parts.specs.Batches.{batches}
use Rattle.moc_parts.specs.declared.command.Command.{Command}
use Rattle.moc_steps.specs.Machine as machine
use Rattle.moc_steps.specs.Machine.{Running, refusal, holds, holder, next_part, has_taken, twelve, unless_idle}
use Rattle.moc_steps.specs.Machine.{take_refusal, edit_refusal, give_refusal, end_refusal, client_at}
use Rattle.moc_steps.specs.Theorems.{IsReachable}
use Rattle.moc_steps.specs.Orders.{is_progress, client_of}
use Rattle.moc_steps.specs.Played.{BatchWorld, step_of}
use Rattle.moc_steps.specs.Private.Worlds.{NoPartHeld, IsHighestHolder}
use Rattle.moc_steps.specs.declared.step.Step.{Step}
use Rattle.std.specs.FinMap.{find}
use Rattle.moc_steps.proofs.Cases.{next_refusal, is_in}
use Rattle.moc_steps.proofs.Permitted.{midway_of}
use Rattle.moc_steps.specs.declared.error.StepError.TheVariants.{PartHeld}
use Rattle.moc_steps.proofs.Basics.{absurd_bool, some_same, none_or_some, and_true, or_left, or_right, not_of_true, cond_else}
use Rattle.moc_steps.proofs.TakingParts.{of_twelve, has_all, taken_alike, nothing_taken, taken_below, next_footprint}
use Rattle.moc_steps.proofs.TakingParts.{nobody_holds, holder_holds}
use Rattle.moc_steps.proofs.AnyObject.{reached_explained}
use Rattle.moc_steps.proofs.Values.{len-entries_of}

-- a table without entries
pub len_none : {X : Type 0} (es : List (ℕ × X)) → (0 < length es → false ≡ true) → map.len (map.from_entries {R = nat_cmp} es) ≡ 0
unfolding IsStrictlySortedBy
len_none [] h = len-entries_of [] tt
len_none (e ∷ es) h = let absurd_bool : false ≡ true = h (omega arith) in absurd (cc (absurd_bool))

none_of : (test : ℕ → Bool) (bs : List ℕ) → ((b : ℕ) → is_in b bs ≡ true → test b ≡ false) → list_any test bs ≡ false
none_of test [] h = refl
none_of test (x ∷ bs) h = ap (λ t. t || list_any test bs) (h x (or_left (nat_eq x x) (is_in x bs) (eq-eqb x x refl))) ∙ none_of test bs (λ b i. h b (or_right (nat_eq x b) (is_in b bs) i))

module _ (w : BatchWorld) (c : ℕ) (r : Running (List Command)) (was : client_at batches w c ≡ Some r) where
  -- the client of the highest held part
  pub holder_has : (b : ℕ) → IsHighestHolder w c b → holds batches r b ≡ true
  holder_has b h =
      let k = holder_holds batches w.locks.clients b c h.0 in
      ap (λ t. holds batches t b) (some_same (client_at batches w c) r k.0 was k.1) ∙ k.2

  takes : (q : ℕ) → next_part batches r ≡ Some q → r.quits ≡ false → holder batches w.locks.clients q ≡ None → refusal batches w.locks (machine.Step.Take c) ≡ None
  takes q next stays free =
      ap (λ x. unless_idle batches x (take_refusal batches w.locks)) was ∙ cond_else _ _ _ stays ∙ ap (next_refusal batches w.locks) next ∙ ap (option_map (PartHeld q)) free

  pub highest_takes : (b : ℕ) → IsHighestHolder w c b → is_some (next_part batches r) ≡ true → r.quits ≡ false → refusal batches w.locks (machine.Step.Take c) ≡ None
  highest_takes b h some stays = elim (none_or_some (next_part batches r)) [
    | inl e ↦ absurd_bool (is_some (next_part batches r)) some (ap is_some e)
    | inr e ↦ takes e.0 e.1 stays (h.1 e.0 (taken_below batches r e.0 b e.1 (and_true _ _ (holder_has b h)).0) (next_footprint batches r e.0 e.1).0)
  ]

  pub highest_edits : (b : ℕ) → IsHighestHolder w c b → r.quits ≡ false → is_some (next_part batches r) ≡ false → set.contains r.edited b ≡ false → refusal batches w.locks (machine.Step.Edit c b) ≡ None
  highest_edits b h stays all unedited =
      ap (λ x. unless_idle batches x (λ t. edit_refusal batches t b)) was ∙ cond_else _ _ _ stays ∙ cond_else _ _ _ all ∙ cond_else _ _ _ (not_of_true (holder_has b h)) ∙ cond_else _ _ _ unedited

  pub highest_gives : (b : ℕ) → IsHighestHolder w c b → (set.contains r.edited b ≡ true) ⊎ (r.quits ≡ true) → refusal batches w.locks (machine.Step.Give c b) ≡ None
  highest_gives b h done =
      ap (λ x. unless_idle batches x (λ t. give_refusal batches t b)) was ∙ cond_else _ _ _ (not_of_true (holder_has b h)) ∙ cond_else _ _ _ (may (set.contains r.edited b) r.quits done)
    where
      may : (x y : Bool) → (x ≡ true) ⊎ (y ≡ true) → (not x && not y) ≡ false
      may true y d = refl
      may false true d = refl
      may false false (inl e) = absurd (cc (e))
      may false false (inr e) = absurd (cc (e))

  -- a client of a world in which no part is held
  pub free_ends : NoPartHeld w → (r.quits ≡ true) ⊎ (nat_lt 0 r.taken ≡ true) → refusal batches w.locks (machine.Step.End c) ≡ None
  free_ends free done =
      ap (λ x. unless_idle batches x (end_refusal batches)) was
      ∙ cond_else _ _ _ (none_of (holds batches r) twelve (λ b i. nobody_holds batches w.locks.clients b c r (free b (of_twelve b i)) was))
      ∙ cond_else _ _ _ (may r.quits r.taken done)
    where
      may : (x : Bool) (k : ℕ) → (x ≡ true) ⊎ (nat_lt 0 k ≡ true) → (not x && nat_eq k 0) ≡ false
      may true k d = refl
      may false k (inl e) = absurd (cc (e))
      may false k (inr e) = grind (arith, nat_tests)

  pub free_takes : IsReachable batches w → NoPartHeld w → r.quits ≡ false → nat_lt 0 r.taken ≡ false → refusal batches w.locks (machine.Step.Take c) ≡ None
  free_takes reached free stays nothing = elim (none_or_some (next_part batches r)) [
    | inr e ↦ takes e.0 e.1 stays (free e.0 (next_footprint batches r e.0 e.1).0)
    | inl e ↦
        let inv = reached_explained batches w reached in
        let f = (inv.1.client c r was).local.some in
        let zero : r.taken ≡ 0 = grind (arith, nat_tests) in
        absurd_bool (has_taken batches r f.0) (has_all batches r f.0 e f.1 f.2)
        (taken_alike batches r (record { number = r.number; operation = r.operation; taken = 0; edited = r.edited; given = r.given; quits = r.quits }) refl zero f.0
        ∙ nothing_taken batches r.number r.operation r.edited r.given r.quits f.0)
  ]

-- a permitted step other than a Begin is one of a midway client
pub progress_running : (l : machine.Locks (List Command)) (s : machine.Step (List Command)) → refusal batches l s ≡ None → is_progress s ≡ true → (r : Running (List Command)) × (map.get l.clients (client_of s) ≡ Some r)
progress_running l (machine.Step.Begin c op) h p = absurd (cc)
progress_running l (machine.Step.Take c) h p = let m = midway_of batches (map.get l.clients c) _ h in (m.0, m.1)
progress_running l (machine.Step.Edit c b) h p = let m = midway_of batches (map.get l.clients c) _ h in (m.0, m.1)
progress_running l (machine.Step.Give c b) h p = let m = midway_of batches (map.get l.clients c) _ h in (m.0, m.1)
progress_running l (machine.Step.Quit c) h p = absurd (cc)
progress_running l (machine.Step.End c) h p = let m = midway_of batches (map.get l.clients c) _ h in (m.0, m.1)

none_there : {X : Type 0} (m : map.FinMap nat_cmp X) (q : ℕ) → map.len m ≡ 0 → map.get m q ≡ None
none_there {X} m q h = map.get-entries m q ∙ empty (map.entries m) (sym (map.len-entries m) ∙ h)
  where
    empty : (es : List (ℕ × X)) → length es ≡ 0 → find nat_cmp q es ≡ None
    empty [] e = refl
    empty (x ∷ es) e = absurd (omega arith)

-- if no client is midway, no such step exists
pub no_step : (l : machine.Locks (List Command)) (x : Option Step) → IfSome x (λ s. (refusal batches l (step_of s) ≡ None) × (is_progress (step_of s) ≡ true)) → map.len l.clients ≡ 0 → x ≡ None
no_step l None h e = refl
no_step l (Some s) h e =
    let k = progress_running l (step_of s) h.0 h.1 in
    let gone = none_there l.clients (client_of (step_of s)) e in
    absurd (cc (gone, k.1))
