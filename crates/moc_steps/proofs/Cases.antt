-- Parts of the machine's definitions, by cases on the state of a client and on its next part.
use Rattle.std.proofs.Common.{ℕ, ◌+◌, Bool, false, not, nat_eq, List, [], ◌∷◌, ◌++◌, Option, None, Some}
use Rattle.std.specs.Prelude.{◌*◌, if◌then◌else◌, option_map, map as map_list, set as set_at, slice_get, fold, count_by}
use Rattle.std.specs.List.{find, list_any}
use Rattle.std.specs.FinSet as set
use Rattle.std.specs.FinMap as map
use Rattle.std.specs.Option.{option_and_then, option_map_or, unwrap_or}
use Rattle.moc_lists.specs.RangeList.{NumberSet}
use Rattle.moc_ranges.specs.Operations.{part_of}
use Rattle.moc_parts.specs.Objects.{Object}
use Rattle.moc_steps.specs.Machine.{Running, Locks, Clients, World, Entry, twelve, is_nonempty, holds, holder, next_part}
use Rattle.moc_steps.specs.Machine.{answer_on_previous, taken_content_of, part_at, with_reply}
use Rattle.moc_steps.specs.Orders.{OperationState, executed_alone}
use Rattle.moc_steps.specs.declared.error.StepError.{StepError}
use Rattle.moc_steps.specs.declared.error.StepError.TheVariants.{PartHeld, AllTaken}

-- a number is in a list
abbrev pub is_in : ℕ → List ℕ → Bool
is_in b bs = list_any (λ x. nat_eq x b) bs

-- the operation has not ended
abbrev pub is_midway : {Op : Type 0} → OperationState Op → Bool
is_midway x = not x.ended

module _ {Op Reply : Type 0} (o : Object Op Reply) where
  -- a client, if it is midway, holds the part
  abbrev pub holds_in_call : Option (Running Op) → ℕ → Bool
  holds_in_call r b = option_map_or (λ r. holds o r b) r false

  -- a Take, an Edit and a Give for each part of the footprint, and an End
  abbrev pub steps_wanted : Option (Running Op) → ℕ
  steps_wanted r = option_map_or (λ r. 3 * count_by (o.footprint r.operation) twelve + 1) r 0

  -- the set after executing the operations one by one in their order
  abbrev pub result_of : List (OperationState Op) → List (Entry Reply) → NumberSet → NumberSet
  result_of xs order A = fold (λ B e. (executed_alone o B (slice_get xs e.begin)).0) A order

  -- the order after an Edit: the first Edit of an operation appends its entry
  abbrev pub appended : List (Entry Reply) → ℕ → Option (Running Op) → List (Entry Reply)
  appended order c r = option_map_or
      (λ r. if is_nonempty r.edited then order
      else (order ++ record { begin = r.number; client = c; reply = None } ∷ []))
      r order

  -- the order after an End: the entry of its operation gets the reply, unless the operation quit
  abbrev pub completed : World Op Reply → ℕ → Option (Running Op) → List (Entry Reply)
  completed w c r = option_map_or
      (λ r. if r.quits then w.order else map_list (with_reply o r.number (answer_on_previous o w c r).1) w.order)
      r w.order

  -- the first of these clients that holds a part
  abbrev pub holder_among : Clients Op → List ℕ → ℕ → Option ℕ
  holder_among m cs b = find (λ c. holds_in_call (map.get m c) b) cs

  -- why a Take of a client that has not quit is refused, from its next part
  abbrev pub next_refusal : Locks Op → Option ℕ → Option StepError
  next_refusal s next = option_map_or (λ b. option_map (PartHeld b) (holder o s.clients b)) next (Some AllTaken)

  -- the clients with one of them changed
  abbrev pub changed : Clients Op → ℕ → Option (Running Op) → (Running Op → Running Op) → Clients Op
  changed m c r f = option_map_or (λ r. map.insert m c (f r)) r m

  -- the contents that a client has taken after a Take
  abbrev pub previous_next : World Op Reply → ℕ → Option (Running Op) → NumberSet
  previous_next w c r = option_map_or (λ r. set.union (taken_content_of o w c) (unwrap_or (option_map (part_at o w) (next_part o r)) set.empty)) r (taken_content_of o w c)

  -- the parts after an Edit
  abbrev pub edited_parts : World Op Reply → ℕ → Option (Running Op) → ℕ → List NumberSet
  edited_parts w c r b = option_map_or (λ r. set_at w.parts b (part_of (answer_on_previous o w c r).0 b)) r w.parts

  -- the reply of an End
  abbrev pub ended_reply : World Op Reply → ℕ → Option (Running Op) → Option Reply
  ended_reply w c r = option_and_then (λ r. if r.quits then None else Some (answer_on_previous o w c r).1) r
