-- The theorems for any sequential object.
use Rattle.std.proofs.Common.{◌≡◌, ℕ, List, [], ◌∷◌, ◌++◌, count_by, None, Some, refl, sym, ap, subst, ◌∙◌}
use Rattle.std.specs.Prelude.{fold}
use Rattle.moc_lists.specs.RangeList.{NumberSet}
use Rattle.moc_ranges.specs.Operations.{pixels, IsWithin}
use Rattle.moc_parts.specs.Objects.{Object}
use Rattle.moc_steps.specs.Machine.{Step, Running, AreLocal, ArePermitted, refusal, World, start_world, world_after_all, client_at}
use Rattle.moc_steps.specs.Machine.{world_after}
use Rattle.moc_steps.specs.Orders.{operations, operations_after, AreProgress, operation_numbers, occurrences}
use Rattle.moc_steps.specs.Theorems.{AreValidSteps, HasOneOrder, CanContinue, ExtendsOrder, IsReachable, RepliesByEntry, reached_world}
use Rattle.moc_steps.proofs.Cases.{is_midway}
use Rattle.moc_steps.proofs.Sky.{covers_of}
use Rattle.moc_steps.proofs.Headline.{explains, part_inside, together, at_end, run_keeps, run_grows, run_append}
use Rattle.moc_steps.proofs.Headline.{operations_append, first_local, rest_local, locks_are, begins_explained}
use Rattle.moc_steps.proofs.Adding.{AreClosed, added, run_closes, progress_all_local}
use Rattle.moc_steps.proofs.Counting.{midway_counted}
use Rattle.moc_steps.proofs.Progress as progress
use Rattle.moc_steps.proofs.Replying.{replies_by_entry}
use Rattle.moc_steps.proofs.Measure.{steps_bounded}
use Rattle.moc_steps.proofs.Invariant.{Explained}

module _ {Op Reply : Type 0} (o : Object Op Reply) where
  pub one_order : (start : NumberSet) (steps : List (Step Op)) → AreValidSteps o start steps → HasOneOrder o start steps
  one_order start steps h = let covers = covers_of start h.within in record {
    explained = explains o start steps covers h.permitted h.local;
    inside = part_inside o start steps covers h.permitted h.local;
    counted = midway_counted o start steps covers h.permitted h.local;
    together = together o start steps covers h.permitted h.local;
  }

  -- the properties of the world after a list of steps
  pub ends_explained : (start : NumberSet) (steps : List (Step Op)) → AreValidSteps o start steps → (Z : NumberSet) × Explained o start (operations steps) (reached_world o start steps) Z
  ends_explained start steps h = at_end o start steps (covers_of start h.within) h.permitted h.local

  pub never_stuck : (start : NumberSet) (steps : List (Step Op)) → AreValidSteps o start steps → (c : ℕ) (r : Running Op) → client_at o (reached_world o start steps) c ≡ Some r → CanContinue o (reached_world o start steps)
  never_stuck start steps h c r is =
      let e = ends_explained start steps h in
      progress.never_stuck o start (operations steps) (reached_world o start steps) e.0 e.1 c r is

  pub permitted_on : (w : World Op Reply) (front back : List (Step Op)) → ArePermitted o w.locks front → ArePermitted o (world_after_all o w front).locks back → ArePermitted o w.locks (front ++ back)
  permitted_on w [] back h k = k
  permitted_on w (step ∷ front) back h k =
      (h.0, subst (λ s. ArePermitted o s (front ++ back)) (sym (locks_are o w step)) (permitted_on (world_after o w step) front back (subst (λ s. ArePermitted o s front) (locks_are o w step) h.1) k))

  pub local_step_appended : (front back : List (Step Op)) → AreLocal o front → AreLocal o back → AreLocal o (front ++ back)
  local_step_appended [] back h k = k
  local_step_appended (step ∷ front) back h k = let l = first_local o step front h in rest_local o step (front ++ back) l.0 (local_step_appended front back l.1 k)

  pub ends_well : (start : NumberSet) (steps more : List (Step Op)) → AreValidSteps o start steps → ArePermitted o (reached_world o start steps).locks more → AreProgress more → ExtendsOrder o start steps more
  ends_well start steps more h k progress =
      let w : World Op Reply = reached_world o start steps in
      let covers = covers_of start h.within in
      let e = ends_explained start steps h in
      let all = permitted_on (start_world o start) steps more h.permitted k in
      let all_local = local_step_appended steps more h.local (progress_all_local o more progress) in
      let f = run_keeps o start more (operations steps) w e.0 e.1 k (progress_all_local o more progress) in
      let closed = run_closes o start (steps ++ more) [] (start_world o start) start (begins_explained o start covers) (λ n x g. absurd (cc (g))) all all_local in
      let ops_are : operations (steps ++ more) ≡ fold operations_after (operations steps) more = operations_append o [] steps more in
      let world_is : reached_world o start (steps ++ more) ≡ world_after_all o w more = run_append o (start_world o start) steps more in
      let grows = run_grows o w more in
      record {
        bounded = steps_bounded o start (operations steps) w e.0 e.1 more k progress;
        kept = (grows.0, ap (λ (v : World Op Reply). operation_numbers v.order) world_is ∙ grows.1);
        added = λ none n. ap (λ (v : World Op Reply). occurrences n (operation_numbers v.order)) world_is
            ∙ added o start more (operations steps) w (world_after_all o w more) e.0 f.0 e.1 f.1 (subst AreClosed ops_are closed) progress (ap (count_by is_midway) (sym ops_are) ∙ none) n;
      }

  pub answered_by_entry : (start : NumberSet) (steps : List (Step Op)) (step : Step Op) → AreValidSteps o start steps → refusal o (reached_world o start steps).locks step ≡ None → RepliesByEntry o (reached_world o start steps) step
  answered_by_entry start steps step h k =
      let e = ends_explained start steps h in
      replies_by_entry o start (operations steps) (reached_world o start steps) e.0 e.1 step k

  -- the start is reached, and so is the world after a permitted step of a reached world
  pub start_reached : (start : NumberSet) → IsWithin start pixels → IsReachable o (start_world o start)
  start_reached start within = record { start = start; steps = []; played = record { within = within; local = tt; permitted = tt }; leads = refl }

  pub step_reached : (w : World Op Reply) (step : Step Op) → IsReachable o w → AreLocal o (step ∷ []) → refusal o w.locks step ≡ None → IsReachable o (world_after o w step)
  step_reached w step reached local h =
      record {
        start = reached.start;
        steps = reached.steps ++ step ∷ [];
        played = record {
          within = reached.played.within;
          local = local_step_appended reached.steps (step ∷ []) reached.played.local local;
          permitted = permitted_on (start_world o reached.start) reached.steps (step ∷ []) reached.played.permitted
              (ap (λ (u : World Op Reply). refusal o u.locks step) reached.leads ∙ h, tt);
        };
        leads = run_append o (start_world o reached.start) reached.steps (step ∷ []) ∙ ap (λ u. world_after o u step) reached.leads;
      }

  -- a reached world is explained by its steps
  pub reached_explained : (w : World Op Reply) → (h : IsReachable o w) → (Z : NumberSet) × Explained o h.start (operations h.steps) w Z
  reached_explained w h = subst (λ u. (Z : NumberSet) × Explained o h.start (operations h.steps) u Z) h.leads (ends_explained h.start h.steps h.played)

  -- in a reached world with a midway client, some client can continue
  pub reached_goes_on : (w : World Op Reply) → IsReachable o w → (c : ℕ) (r : Running Op) → client_at o w c ≡ Some r → CanContinue o w
  reached_goes_on w h c r is = let e = reached_explained w h in progress.never_stuck o h.start (operations h.steps) w e.0 e.1 c r is

  -- in a reached world, the reply of a permitted step is in the entry of its operation
  pub reached_replies : (w : World Op Reply) → IsReachable o w → (step : Step Op) → refusal o w.locks step ≡ None → RepliesByEntry o w step
  reached_replies w h step k = let e = reached_explained w h in replies_by_entry o h.start (operations h.steps) w e.0 e.1 step k
