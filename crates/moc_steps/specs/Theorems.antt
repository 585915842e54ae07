-- The main theorem of the step machine, and the theorems around it.
use Rattle.std.specs.Prelude.{◌≡◌, ℕ, ◌+◌, ◌≤◌, true, List, [], ◌∷◌, ◌++◌, length, slice_get, if◌then◌else◌, None, Some}
use Rattle.std.specs.FinSet as set
use Rattle.std.specs.FinMap as map
use Rattle.moc_lists.specs.RangeList.{NumberSet}
use Rattle.moc_ranges.specs.Operations.{pixels, IsWithin}
use Rattle.moc_parts.specs.Objects.{Object, base_pixel}
use Rattle.moc_parts.specs.Batches.{batches}
use Rattle.moc_parts.specs.declared.command.Command.{Command}
use Rattle.moc_steps.specs.Machine.{Step, Running, ArePermitted, AreLocal, all_idle, refusal, World, Entry, reply_to}
use Rattle.moc_steps.specs.Machine.{world_after, world_after_all, start_world, part_at, whole, client_at}
use Rattle.moc_steps.specs.Orders.{operations, midway, Explains}
use Rattle.moc_steps.specs.Orders.{set_by_order, operation_numbers, occurrences, AreProgress}
use Rattle.moc_steps.specs.Orders.{is_progress}
use Rattle.moc_steps.specs.Orders.{client_of, steps_left, is_pending}

module _ {Op Reply : Type 0} (o : Object Op Reply) where
  -- the world after a list of steps
  abbrev pub reached_world : NumberSet → List (Step Op) → World Op Reply
  reached_world start steps = world_after_all o (start_world o start) steps

  -- local operations, each step permitted at its time, from a set of pixels
  pub record AreValidSteps (start : NumberSet) (steps : List (Step Op)) : Type 0 where
    pub within : IsWithin start pixels
    pub local : AreLocal o steps
    pub permitted : ArePermitted o (all_idle o) steps

  -- the operations of the steps have one sequential order that explains their replies
  pub record HasOneOrder (start : NumberSet) (steps : List (Step Op)) : Type 0 where
    pub explained : Explains o (reached_world start steps).order steps start
    -- each part is within its base pixel
    pub inside : (b p : ℕ) → set.contains (part_at o (reached_world start steps) b) p ≡ true → base_pixel p ≡ b
    -- the number of clients that are midway is the number of operations that are midway
    pub counted : map.len (reached_world start steps).locks.clients ≡ midway steps
    -- if none is midway, the union of the parts is the set after executing the operations one by one in the order
    pub together : midway steps ≡ 0
        → whole o (reached_world start steps) ≡ set_by_order o (reached_world start steps).order steps start

  -- a permitted step of a midway client that is neither a Begin nor a Quit
  abbrev pub CanContinue : World Op Reply → Type 0
  CanContinue w = (step : Step Op) × (refusal o w.locks step ≡ None) × (is_progress step ≡ true)
      × (r : Running Op) × (client_at o w (client_of step) ≡ Some r)

  -- further steps are bounded in number, extend the order, and add the operations that were still to be committed
  pub record ExtendsOrder (start : NumberSet) (steps more : List (Step Op)) : Type 0 where
    pub bounded : length more ≤ steps_left o (reached_world start steps).locks.clients
    pub kept : (new : List ℕ)
        × (operation_numbers (reached_world start (steps ++ more)).order
        ≡ operation_numbers (reached_world start steps).order ++ new)
    pub added : midway (steps ++ more) ≡ 0 → (n : ℕ)
        → occurrences n (operation_numbers (reached_world start (steps ++ more)).order)
        ≡ occurrences n (operation_numbers (reached_world start steps).order)
        + (if is_pending (slice_get (operations steps) n) then 1 else 0)

  -- every entry for operation n has this reply
  abbrev pub HasReply : ℕ → Reply → List (Entry Reply) → Type 0
  HasReply n y [] = Unit {0}
  HasReply n y (e ∷ order) = (e.begin ≡ n → e.reply ≡ Some y) × HasReply n y order

  -- the reply of a step is the one in the entry of its client's operation
  abbrev pub RepliesByEntry : World Op Reply → Step Op → Type 0
  RepliesByEntry w step = (y : Reply) → reply_to o w step ≡ Some y
      → (r : Running Op) × (client_at o w (client_of step) ≡ Some r)
      × (occurrences r.number (operation_numbers (world_after o w step).order) ≡ 1)
      × HasReply r.number y (world_after o w step).order

  -- permitted steps lead to the world
  pub record IsReachable (w : World Op Reply) : Type 0 where
    pub start : NumberSet
    pub steps : List (Step Op)
    pub played : AreValidSteps start steps
    pub leads : reached_world start steps ≡ w

-- The theorems for batches

-- the operations of permitted steps have one sequential order
abbrev pub StepsHaveOneOrder : Type 0
StepsHaveOneOrder = (start : NumberSet) (steps : List (Step (List Command))) → AreValidSteps batches start steps
    → HasOneOrder batches start steps

-- if a client is midway, some client can continue
abbrev pub WorldsAreNeverStuck : Type 0
WorldsAreNeverStuck = (start : NumberSet) (steps : List (Step (List Command))) → AreValidSteps batches start steps
    → (c : ℕ) (r : Running (List Command)) → client_at batches (reached_world batches start steps) c ≡ Some r
    → CanContinue batches (reached_world batches start steps)

-- a world reaches its end in few steps that are neither Begins nor Quits
abbrev pub WorldsEndSoon : Type 0
WorldsEndSoon = (start : NumberSet) (steps more : List (Step (List Command))) → AreValidSteps batches start steps
    → ArePermitted batches (reached_world batches start steps).locks more → AreProgress more
    → ExtendsOrder batches start steps more

-- the reply of a permitted step is in the entry of its operation
abbrev pub RepliesAreTheEntries : Type 0
RepliesAreTheEntries = (start : NumberSet) (steps : List (Step (List Command))) (step : Step (List Command))
    → AreValidSteps batches start steps → refusal batches (reached_world batches start steps).locks step ≡ None
    → RepliesByEntry batches (reached_world batches start steps) step
