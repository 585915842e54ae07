-- Commands on the cells of an array or on a set of a store. `old` is a handle before a call, and `new` after it.
use Rattle.std.specs.Prelude.{◌≡◌, ◌⊎◌, ◌∷◌, [], ℕ, List, None, Result, Ok, Err, nat_eq, if◌then◌else◌}
use Rattle.std.specs.FinSet as set
use Rattle.moc_lists.specs.RangeList.{NumberSet}
use Rattle.moc_parts.specs.declared.command.Command.{Command}
use Rattle.moc_parts.specs.declared.command.Command.TheVariants as command
use Rattle.moc_parts.specs.declared.command.Operand.{Operand}
use Rattle.moc_parts.specs.declared.reply.Reply.{Reply}
use Rattle.moc_parts.specs.declared.reply.Reply.TheVariants.{Changed, Taken, Total}
use Rattle.moc_c.specs.Buffers.{set_of_cells_or_error}
use Rattle.moc_c.specs.CallResults.{memory, number_result, result_of}
use Rattle.moc_c.specs.Membership.{Membership}
use Rattle.moc_c.specs.Sharing.{FailsTrying, IsAfter, member_of_handle, MemberEnds, with_member}
use Rattle.moc_c.specs.declared.commands.Verb.{Verb}
use Rattle.moc_c.specs.declared.commands.Verb.TheVariants as verb
use Rattle.moc_c.specs.declared.error.CallError.{CallError}
use Rattle.moc_c.specs.declared.call_result.CallResult.{CallResult}
use Rattle.moc_c.specs.declared.client_state.ClientState.{ClientState}

-- an operand without an order
abbrev pub plain_operand : NumberSet → Operand
plain_operand a = record { set = a; coarse = None }

-- the command on a set
abbrev pub command_on : Verb → NumberSet → Command
command_on verb.Add a = command.Add (plain_operand a)
command_on verb.Remove a = command.Remove (plain_operand a)
command_on verb.Claim a = command.Claim (plain_operand a)
command_on verb.Count a = command.Count (plain_operand a)
command_on verb.Contains a = command.Count (plain_operand a)

-- the number of pixels that a reply states; 0 if it states none, as for a claim that succeeded
abbrev pub number_of_reply : Reply → ℕ
number_of_reply (Changed n) = n
number_of_reply (Taken n) = n
number_of_reply (Total n) = n
number_of_reply _ = 0

-- the value of the reply to a command on a set of this many pixels: the number of the reply; or 1 if the map has all
-- pixels of the set, and 0 if not
abbrev pub value_of_reply : Verb → ℕ → Reply → ℕ
value_of_reply verb.Add pixels r = number_of_reply r
value_of_reply verb.Remove pixels r = number_of_reply r
value_of_reply verb.Claim pixels r = number_of_reply r
value_of_reply verb.Count pixels r = number_of_reply r
value_of_reply verb.Contains pixels r = if nat_eq (number_of_reply r) pixels then 1 else 0

-- the member's call of the command on a set is executed, and the result is the value of its reply; or it fails
abbrev pub ExecutesCommand : Membership → Membership → Verb → NumberSet → CallResult → Type 0
ExecutesCommand m n verb a o =
    ((r : Reply) × MemberEnds m n (command_on verb a ∷ []) (r ∷ [])
    × (o ≡ number_result (value_of_reply verb (set.len a) r)))
    ⊎ FailsTrying m n (command_on verb a ∷ []) o

-- The member of a handle executes the command on the set. Or the result is an error, or an allocation fails, and
-- nothing changes. The handle keeps the replies to the last line.
abbrev pub CallsWithSet : Verb → ClientState → ClientState → Result Membership CallError → Result NumberSet CallError
    → CallResult → Type 0
CallsWithSet verb old new (Ok m) (Ok a) o =
    ((n : Membership) × IsAfter m n × (new ≡ with_member old n) × ExecutesCommand m n verb a o)
    ⊎ ((new ≡ old) × (o ≡ memory))
CallsWithSet verb old new (Ok m) (Err e) o = (new ≡ old) × ((o ≡ result_of e) ⊎ (o ≡ memory))
CallsWithSet verb old new (Err e) set o = (new ≡ old) × (o ≡ result_of e)

-- as `CallsWithSet` on the cells of an order with these indices
abbrev pub CallsWithCells : Verb → ClientState → ClientState → ℕ → List ℕ → CallResult → Type 0
CallsWithCells verb old new order cells o =
    CallsWithSet verb old new (member_of_handle old) (set_of_cells_or_error order cells) o
