-- The state of a midway client.
use Rattle.std.specs.Prelude.{◌≡◌, ℕ, ◌<◌, true, List, Option, None, IfSome, IsSome, is_some, get_or, nat_eq, take}
use Rattle.std.specs.Prelude.{map as map_list}
use Rattle.std.specs.List.{list_any}
use Rattle.std.specs.Ordering.{nat_cmp}
use Rattle.std.specs.FinSet as set
use Rattle.moc_lists.specs.RangeList.{NumberSet}
use Rattle.moc_parts.specs.Batches.{batches, footprint_of_all, set_after_all, replies_on}
use Rattle.moc_parts.specs.Parts.{union_of, AreWithinParts}
use Rattle.moc_parts.specs.Prepared.{content_or_empty, part_if}
use Rattle.moc_parts.specs.declared.command.Command.{Command}
use Rattle.moc_parts.specs.declared.reply.Reply.{Reply}
use Rattle.moc_steps.specs.Machine.{Running, footprint_parts, is_nonempty}

-- a midway client, the contents of the parts that it has taken, and the index of its entry if it is committed
pub record ClientState : Type 0 where
  pub running : Running (List Command)
  pub taken_content : NumberSet
  pub entry_index : Option ℕ

-- the result of an operation: the index of its entry, the new contents by part, and the replies
pub record UpdateResult : Type 0 where
  pub entry_index : ℕ
  pub lists : List (Option NumberSet)
  pub replies : List Reply

-- the content of each part, or the empty set if the part was not taken
abbrev pub contents_of : List (Option NumberSet) → List NumberSet
contents_of taken_lists = map_list content_or_empty taken_lists

-- the result of a batch on a set: the replies, and the new contents of the parts in the footprint
pub record IsResultOf (cs : List Command) (taken_content : NumberSet) (m : UpdateResult) : Type 0 where
  pub replied : m.replies ≡ replies_on taken_content cs
  pub parts : (b : ℕ) → b < 12
      → get_or m.lists b None ≡ part_if (footprint_of_all cs b) (set_after_all taken_content cs) b

-- the result of a batch, from the contents of the parts
abbrev pub IsResultFrom : List Command → List NumberSet → UpdateResult → Type 0
IsResultFrom cs contents m = IsResultOf cs (union_of contents) m

-- the result of the operation of a midway client
abbrev pub IsUpdateResult : ClientState → UpdateResult → Type 0
IsUpdateResult s m = IsResultOf s.running.operation s.taken_content m

-- the invariant of a midway client
pub record ClientInvariant (cs : List Command) (taken : ℕ) (edited : set.FinSet nat_cmp) (parts : List ℕ)
    (taken_lists : List (Option NumberSet)) (prepared_update : Option UpdateResult) : Type 0 where
  pub ascending : parts ≡ footprint_parts batches cs
  -- there is a list for exactly the parts that the client has taken
  pub filled : (b : ℕ) → b < 12 → is_some (get_or taken_lists b None) ≡ list_any (λ x. nat_eq x b) (take taken parts)
  pub own : AreWithinParts (contents_of taken_lists)
  pub ready : IfSome prepared_update (λ m. IsResultFrom cs (contents_of taken_lists) m)
  pub committed : is_nonempty edited ≡ true → IsSome prepared_update
