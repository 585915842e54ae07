-- Executing steps one by one.
use Rattle.std.proofs.Common.{◌≡◌, ℕ, zero, suc, ◌+◌, List, [], ◌∷◌, ◌++◌, None, Some, slice_get, take, length, inr}
use Rattle.std.proofs.Common.{refl, sym, ap, subst, ◌∙◌, arith}
use Rattle.moc_lists.specs.RangeList.{NumberSet}
use Rattle.moc_ranges.specs.Operations.{pixels, IsWithin}
use Rattle.moc_parts.specs.Batches.{batches}
use Rattle.moc_parts.specs.Objects.{IsLocal}
use Rattle.moc_parts.specs.declared.command.Command.{Command}
use Rattle.moc_steps.specs.Machine.{AreLocal, refusal, start_world, world_after}
use Rattle.moc_steps.specs.Theorems.{reached_world, AreValidSteps, HasOneOrder}
use Rattle.moc_steps.specs.Played.{BatchWorld, step_of, steps_of, IsRefused, IsRefusedAt}
use Rattle.moc_steps.specs.declared.step.Step.{Step}
use Rattle.moc_steps.specs.declared.step.Step.TheVariants.{Begin, Take, Edit, Give, Quit, End}
use Rattle.moc_steps.specs.declared.error.StepError.{StepError}
use Rattle.moc_steps.proofs.Basics.{some_same}
use Rattle.moc_steps.proofs.Headline.{run_append}
use Rattle.moc_steps.proofs.AnyObject.{local_step_appended, permitted_on, one_order}

pub step_local : (s : Step) → ((c : ℕ) (op : List Command) → s ≡ Begin c op → IsLocal batches op) → AreLocal batches (step_of s ∷ [])
step_local (Begin c op) h = (h c op refl, tt)
step_local (Take c) h = tt
step_local (Edit c b) h = tt
step_local (Give c b) h = tt
step_local (Quit c) h = tt
step_local (End c) h = tt

-- the first n steps lead to the world
abbrev pub Leads : NumberSet → List Step → ℕ → BatchWorld → Type 0
Leads start steps n w = (w ≡ reached_world batches start (steps_of (take n steps))) × AreValidSteps batches start (steps_of (take n steps))

steps_of_none : (steps : List Step) → steps_of (take 0 steps) ≡ []
steps_of_none [] = refl
steps_of_none (x ∷ steps) = refl

steps_of_next : (steps : List Step) (i : ℕ) (x : Step) → slice_get steps i ≡ Some x → steps_of (take (suc i) steps) ≡ steps_of (take i steps) ++ step_of x ∷ []
steps_of_next [] i x h = absurd (cc)
steps_of_next (s ∷ steps) zero x h = (λ j. step_of (some_same (Some s) s x refl h j) ∷ steps_of_none steps j) ∙ ap (λ ys. ys ++ step_of x ∷ []) (sym (steps_of_none (s ∷ steps)))
steps_of_next (s ∷ steps) (suc i) x h = ap (λ ys. step_of s ∷ ys) (steps_of_next steps i x h)

footprint_is_taken : (steps : List Step) → take (length steps) steps ≡ steps
footprint_is_taken [] = refl
footprint_is_taken (x ∷ steps) = ap (λ ys. x ∷ ys) (footprint_is_taken steps)

pub leads_from_start : (start : NumberSet) (steps : List Step) (w : BatchWorld) → IsWithin start pixels → w ≡ start_world batches start → Leads start steps 0 w
leads_from_start start steps w within is = (
  is ∙ ap (reached_world batches start) (sym (steps_of_none steps)),
  subst (AreValidSteps batches start) (sym (steps_of_none steps)) (record { within = within; local = tt; permitted = tt }),
)

pub leads_after_step : (start : NumberSet) (steps : List Step) (i : ℕ) (x : Step) (w w' : BatchWorld) → Leads start steps i w → slice_get steps i ≡ Some x → AreLocal batches (step_of x ∷ [])
    → refusal batches w.locks (step_of x) ≡ None → w' ≡ world_after batches w (step_of x) → Leads start steps (i + 1) w'
leads_after_step start steps i x w w' h at local permitted is =
    let e : i + 1 ≡ suc i = omega arith in
    let more : steps_of (take (i + 1) steps) ≡ steps_of (take i steps) ++ step_of x ∷ [] = ap (λ n. steps_of (take n steps)) e ∙ steps_of_next steps i x at in (
      is ∙ ap (λ (u : BatchWorld). world_after batches u (step_of x)) h.0 ∙ sym (run_append batches (start_world batches start) (steps_of (take i steps)) (step_of x ∷ [])) ∙ sym (ap (reached_world batches start) more),
      subst (AreValidSteps batches start) (sym more) (record {
        within = h.1.within;
        local = local_step_appended batches (steps_of (take i steps)) (step_of x ∷ []) h.1.local local;
        permitted = permitted_on batches (start_world batches start) (steps_of (take i steps)) (step_of x ∷ []) h.1.permitted (sym (ap (λ (u : BatchWorld). refusal batches u.locks (step_of x)) h.0) ∙ permitted, tt);
      }),
    )

pub leads_complete : (start : NumberSet) (steps : List Step) (n : ℕ) (w : BatchWorld) → Leads start steps n w → n ≡ length steps → (w ≡ reached_world batches start (steps_of steps)) × AreValidSteps batches start (steps_of steps)
leads_complete start steps n w h e =
    let all : steps_of (take n steps) ≡ steps_of steps = ap (λ k. steps_of (take k steps)) e ∙ ap steps_of (footprint_is_taken steps) in
    (h.0 ∙ ap (reached_world batches start) all, subst (AreValidSteps batches start) all h.1)

pub leads_to_one_order : (start : NumberSet) (steps : List Step) → AreValidSteps batches start (steps_of steps) → HasOneOrder batches start (steps_of steps)
leads_to_one_order start steps h = one_order batches start (steps_of steps) h

pub leads_if_refused : (start : NumberSet) (steps : List Step) (i : ℕ) (x : Step) (w : BatchWorld) (why : StepError) → Leads start steps i w → slice_get steps i ≡ Some x
    → IsRefused (refusal batches w.locks (step_of x)) (step_of x) why → IsRefusedAt start steps i why
leads_if_refused start steps i x w why h at refused = inr (record {
  step = x;
  here = at;
  before = h.1;
  refused = subst (λ (u : BatchWorld). IsRefused (refusal batches u.locks (step_of x)) (step_of x) why) h.0 refused;
})
