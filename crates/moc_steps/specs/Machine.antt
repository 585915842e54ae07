-- The step machine: clients take the parts of their footprints in ascending order, edit them, and give them back.
use Rattle.std.specs.Prelude.{◌≡◌, ℕ, suc, ◌-◌, ◌^◌, Bool, true, false, not, ◌&&◌, nat_eq, List, [], ◌∷◌, Option, None}
use Rattle.std.specs.Prelude.{Some, if◌then◌else◌, is_some, option_map, take, slice_get, ◌++◌, map as map_list, get_or}
use Rattle.std.specs.Prelude.{set as set_at, fold}
use Rattle.std.specs.List.{filter, find, list_any}
use Rattle.std.specs.Ordering.{nat_cmp}
use Rattle.std.specs.FinSet as set
use Rattle.std.specs.FinMap as map
use Rattle.std.specs.Option.{option_and_then, option_map_or, unwrap_or}
use Rattle.moc_parts.specs.Objects.{Object, IsLocal}
use Rattle.moc_steps.specs.declared.error.StepError.{StepError}
use Rattle.moc_steps.specs.declared.error.StepError.TheVariants.{NotIdle, Idle, PartHeld, AllTaken, NotAllTaken}
use Rattle.moc_steps.specs.declared.error.StepError.TheVariants.{NotHeld, AlreadyEdited, NotEdited, BegunEditing}
use Rattle.moc_steps.specs.declared.error.StepError.TheVariants.{StillHolding, NothingDone, Quitting, TooMany}
use Rattle.moc_lists.specs.RangeList.{NumberSet}
use Rattle.moc_ranges.specs.Operations.{part_of}
use Rattle.moc_parts.specs.Parts.{union_of, parts_below}

-- The locks, without the contents of the parts

-- a step of a client
pub data Step (Op : Type 0) : Type 0 where
  Begin : (client : ℕ) (op : Op) → Step Op
  Take : (client : ℕ) → Step Op
  Edit : (client part : ℕ) → Step Op
  Give : (client part : ℕ) → Step Op
  Quit : (client : ℕ) → Step Op
  End : (client : ℕ) → Step Op

-- a client that is midway: its operation has begun and has not ended
pub record Running (Op : Type 0) : Type 0 where
  -- the number of its operation: the number of earlier Begins
  pub number : ℕ
  pub operation : Op
  -- the number of parts of its footprint that it has taken, in ascending order
  pub taken : ℕ
  pub edited : set.FinSet nat_cmp
  pub given : set.FinSet nat_cmp
  pub quits : Bool

-- the clients that are midway, by number
abbrev pub Clients : Type 0 → Type 0
Clients Op = map.FinMap nat_cmp (Running Op)

-- the state of clients and parts, without the sets
pub record Locks (Op : Type 0) : Type 0 where
  -- the number of operations that have begun
  pub begun : ℕ
  -- the clients that are midway; all others are idle
  pub clients : Clients Op

-- the twelve parts in ascending order
abbrev pub twelve : List ℕ
twelve = 0 ∷ 1 ∷ 2 ∷ 3 ∷ 4 ∷ 5 ∷ 6 ∷ 7 ∷ 8 ∷ 9 ∷ 10 ∷ 11 ∷ []

-- whether a set is not empty
abbrev pub is_nonempty : set.FinSet nat_cmp → Bool
is_nonempty s = not (nat_eq (set.len s) 0)

module _ {Op Reply : Type 0} (o : Object Op Reply) where
  -- the footprint in ascending order
  unfoldable pub footprint_parts : Op → List ℕ
  footprint_parts op = filter (o.footprint op) twelve

  -- the next part to take, if any
  unfoldable pub next_part : Running Op → Option ℕ
  next_part r = slice_get (footprint_parts r.operation) r.taken

  -- the client has taken the part
  unfoldable pub has_taken : Running Op → ℕ → Bool
  has_taken r b = list_any (λ x. nat_eq x b) (take r.taken (footprint_parts r.operation))

  -- the client has taken the part and not given it back
  abbrev pub holds : Running Op → ℕ → Bool
  holds r b = has_taken r b && not (set.contains r.given b)

  -- the client holds at least one part
  abbrev pub holds_some : Running Op → Bool
  holds_some r = list_any (holds r) twelve

  -- the client that holds a part, if any
  unfoldable pub holder : Clients Op → ℕ → Option ℕ
  holder m b = find (λ c. option_map_or (λ r. holds r b) (map.get m c) false) (map.keys m)

  -- why a Begin is refused, from the state of the client if it is midway
  abbrev pub begin_refusal : Locks Op → Option (Running Op) → Option StepError
  begin_refusal s r =
      if is_some r then Some NotIdle else if nat_eq s.begun (2 ^ 64 - 1) then Some TooMany else None

  -- why a Take is refused: the client has quit, the next part is held, or no part remains
  abbrev pub take_refusal : Locks Op → Running Op → Option StepError
  take_refusal s r =
      if r.quits then Some Quitting
      else option_map_or (λ b. option_map (PartHeld b) (holder s.clients b)) (next_part r) (Some AllTaken)

  -- why an Edit of a part is refused
  abbrev pub edit_refusal : Running Op → ℕ → Option StepError
  edit_refusal r b =
      if r.quits then Some Quitting
      else if is_some (next_part r) then Some NotAllTaken
      else if not (holds r b) then Some NotHeld
      else if set.contains r.edited b then Some AlreadyEdited
      else None

  -- why a Give of a part is refused
  abbrev pub give_refusal : Running Op → ℕ → Option StepError
  give_refusal r b =
      if not (holds r b) then Some NotHeld
      else if not (set.contains r.edited b) && not r.quits then Some NotEdited
      else None

  -- why a Quit is refused
  abbrev pub quit_refusal : Running Op → Option StepError
  quit_refusal r = if r.quits then Some Quitting else if is_nonempty r.edited then Some BegunEditing else None

  -- why an End is refused
  abbrev pub end_refusal : Running Op → Option StepError
  end_refusal r =
      if holds_some r then Some StillHolding else if not r.quits && nat_eq r.taken 0 then Some NothingDone else None

  -- why the step of a midway client is refused; `Idle` for an idle client
  abbrev pub unless_idle : Option (Running Op) → (Running Op → Option StepError) → Option StepError
  unless_idle r test = option_map_or test r (Some Idle)

  -- why a step is refused, or `None` if it is permitted
  abbrev pub refusal : Locks Op → Step Op → Option StepError
  refusal s (Begin c op) = begin_refusal s (map.get s.clients c)
  refusal s (Take c) = unless_idle (map.get s.clients c) (take_refusal s)
  refusal s (Edit c b) = unless_idle (map.get s.clients c) (λ r. edit_refusal r b)
  refusal s (Give c b) = unless_idle (map.get s.clients c) (λ r. give_refusal r b)
  refusal s (Quit c) = unless_idle (map.get s.clients c) quit_refusal
  refusal s (End c) = unless_idle (map.get s.clients c) end_refusal

  -- the state of a client that begins an operation
  abbrev pub new_running : ℕ → Op → Running Op
  new_running n op =
      record { number = n; operation = op; taken = 0; edited = set.empty; given = set.empty; quits = false }

  -- the locks after changing one client, if it is midway
  abbrev pub with_client : Locks Op → ℕ → (Running Op → Running Op) → Locks Op
  with_client s c f = record s {
    clients = option_map_or (λ r. map.insert s.clients c (f r)) (map.get s.clients c) s.clients;
  }

  -- the locks after a permitted step
  abbrev pub locks_after : Locks Op → Step Op → Locks Op
  locks_after s (Begin c op) = record { begun = suc s.begun; clients = map.insert s.clients c (new_running s.begun op) }
  locks_after s (Take c) = with_client s c (λ r. record r { taken = suc r.taken })
  locks_after s (Edit c b) = with_client s c (λ r. record r { edited = set.insert r.edited b })
  locks_after s (Give c b) = with_client s c (λ r. record r { given = set.insert r.given b })
  locks_after s (Quit c) = with_client s c (λ r. record r { quits = true })
  locks_after s (End c) = record { begun = s.begun; clients = map.remove s.clients c }

  -- the initial locks: no operation has begun
  abbrev pub all_idle : Locks Op
  all_idle = record { begun = 0; clients = map.empty }

  -- each step is permitted at its time
  abbrev pub ArePermitted : Locks Op → List (Step Op) → Type 0
  ArePermitted s [] = Unit {0}
  ArePermitted s (step ∷ steps) = (refusal s step ≡ None) × ArePermitted (locks_after s step) steps

  -- each operation is local
  abbrev pub AreLocal : List (Step Op) → Type 0
  AreLocal [] = Unit {0}
  AreLocal (Begin c op ∷ steps) = IsLocal o op × AreLocal steps
  AreLocal (step ∷ steps) = AreLocal steps

-- The twelve sets and the order of the operations

-- a committed operation, with its reply once it has ended
pub record Entry (Reply : Type 0) : Type 0 where
  pub begin : ℕ
  pub client : ℕ
  pub reply : Option Reply

-- the state of the step machine
pub record World (Op Reply : Type 0) : Type 0 where
  pub locks : Locks Op
  -- the contents of the twelve parts
  pub parts : List NumberSet
  -- for each midway client, the union of the contents of the parts when it took them
  pub taken_content : map.FinMap nat_cmp NumberSet
  -- the committed operations in the order of their first Edits
  pub order : List (Entry Reply)

module _ {Op Reply : Type 0} (o : Object Op Reply) where
  -- the world with this set, in which all clients are idle
  abbrev pub start_world : NumberSet → World Op Reply
  start_world start = record { locks = all_idle o; parts = parts_below start 12; taken_content = map.empty; order = [] }

  -- the content of a part
  abbrev pub part_at : World Op Reply → ℕ → NumberSet
  part_at w b = get_or w.parts b set.empty

  -- a client, if it is midway
  abbrev pub client_at : World Op Reply → ℕ → Option (Running Op)
  client_at w c = map.get w.locks.clients c

  -- the union of the contents of the parts when the client took them
  abbrev pub taken_content_of : World Op Reply → ℕ → NumberSet
  taken_content_of w c = unwrap_or (map.get w.taken_content c) set.empty

  -- the new set and the reply of the client's operation, computed from the parts that it has taken
  abbrev pub answer_on_previous : World Op Reply → ℕ → Running Op → NumberSet × Reply
  answer_on_previous w c r = o.answer (taken_content_of w c) r.operation

  -- an entry with its reply, if it is that of operation n
  abbrev pub with_reply : ℕ → Reply → Entry Reply → Entry Reply
  with_reply n reply e = if nat_eq e.begin n then record e { reply = Some reply } else e

  -- the parts after a step: an Edit replaces the part by that of the operation's new set
  abbrev pub parts_after : World Op Reply → Step Op → List NumberSet
  parts_after w (Edit c b) =
      option_map_or (λ r. set_at w.parts b (part_of (answer_on_previous w c r).0 b)) (client_at w c) w.parts
  parts_after w step = w.parts

  -- the taken contents after a step: a Begin starts with none, a Take adds the part's content, an End removes them
  abbrev pub taken_content_after : World Op Reply → Step Op → map.FinMap nat_cmp NumberSet
  taken_content_after w (Begin c op) = map.insert w.taken_content c set.empty
  taken_content_after w (Take c) = map.insert w.taken_content c (option_map_or
      (λ r. set.union (taken_content_of w c) (unwrap_or (option_map (part_at w) (next_part o r)) set.empty))
      (client_at w c) (taken_content_of w c))
  taken_content_after w (End c) = map.remove w.taken_content c
  taken_content_after w step = w.taken_content

  -- the order after a step: the first Edit of an operation appends its entry, and its End adds the reply unless it quit
  abbrev pub entries_after : World Op Reply → Step Op → List (Entry Reply)
  entries_after w (Edit c b) = option_map_or
      (λ r. if is_nonempty r.edited then w.order
      else (w.order ++ record { begin = r.number; client = c; reply = None } ∷ []))
      (client_at w c) w.order
  entries_after w (End c) = option_map_or
      (λ r. if r.quits then w.order else map_list (with_reply r.number (answer_on_previous w c r).1) w.order)
      (client_at w c) w.order
  entries_after w step = w.order

  -- the world after a permitted step
  abbrev pub world_after : World Op Reply → Step Op → World Op Reply
  world_after w step = record {
    locks = locks_after o w.locks step;
    parts = parts_after w step;
    taken_content = taken_content_after w step;
    order = entries_after w step;
  }

  -- the world after a list of steps
  abbrev pub world_after_all : World Op Reply → List (Step Op) → World Op Reply
  world_after_all w steps = fold world_after w steps

  -- the reply of a step: an End returns that of its operation, unless the client quit
  abbrev pub reply_to : World Op Reply → Step Op → Option Reply
  reply_to w (End c) =
      option_and_then (λ r. if r.quits then None else Some (answer_on_previous w c r).1) (client_at w c)
  reply_to w step = None

  -- the union of the twelve sets
  abbrev pub whole : World Op Reply → NumberSet
  whole w = union_of w.parts
