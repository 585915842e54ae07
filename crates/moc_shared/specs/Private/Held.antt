-- The state of a client that holds parts while it executes a batch or a command.
use Rattle.std.specs.Prelude.{◌≡◌, ℕ, List, [], ◌∷◌, Option, Some, Result, IfOk, OnErr}
use Rattle.atomic_table.specs.Table.{Me}
use Rattle.moc_lists.specs.RangeList.{NumberSet}
use Rattle.moc_ranges.specs.declared.errors.Memory.{Memory}
use Rattle.moc_parts.specs.declared.command.Command.{Command}
use Rattle.moc_parts.specs.declared.reply.Reply.{Reply}
use Rattle.moc_shared.specs.Seats.{note, Pointer, ClientView}
use Rattle.moc_shared.specs.Private.Invariant.{IsSingleClient}
use Rattle.moc_shared.specs.Private.Seats.{IsCarried, notes_below, AreWithinOwnParts, IsFootprint}
use Rattle.moc_shared.specs.Private.Slots.{BatchTakesEffect}

-- a client holds exactly the parts with these pointers
pub record HoldsAll (slots : List (Option Pointer)) (me : Me (Option Pointer) ClientView) : Type 0 where
  pub client : IsSingleClient me.0
  pub carried : IsCarried me
  pub held : me.0.holds ≡ notes_below slots 12

-- A client holds exactly the parts in the footprint of a batch. Their lists are those that were taken, each within its
-- own base pixel.
pub record HoldsFootprint (batch : List Command) (previous : List (Option Pointer))
    (me : Me (Option Pointer) ClientView)
    : Type 0 where
  pub all : HoldsAll previous me
  pub footprint : IsFootprint batch previous
  pub own : AreWithinOwnParts previous

-- all parts are given back: the batch took effect with these replies, or failed out of memory in the given way
pub record IsExecuted (cs : List Command) (failed : ClientView → ClientView → Type 0)
    (old new : Me (Option Pointer) ClientView)
    (result : Result (List Reply) Memory) : Type 0 where
  pub idle : new.1 ≡ []
  pub ok : IfOk result (λ r. BatchTakesEffect cs r [] old.0 new.0)
  pub err : OnErr result (failed old.0 new.0)

-- a client holds exactly this part, whose content was this set
pub record HoldsOnly (b : ℕ) (previous : NumberSet) (me : Me (Option Pointer) ClientView) : Type 0 where
  pub client : IsSingleClient me.0
  pub carried : IsCarried me
  pub held : me.0.holds ≡ note b (Some previous) ∷ []
