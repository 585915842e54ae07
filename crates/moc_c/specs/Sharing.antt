-- The contracts of calls on client handles. `old` is a handle or member before a call, `new` the same after it.
use Rattle.std.specs.Prelude.{◌≡◌, ◌⊎◌, ◌++◌, ◌∷◌, [], ℕ, List, nat_le, ◌&&◌, if◌then◌else◌, Option, None, Some, Result}
use Rattle.std.specs.Prelude.{Ok, Err}
use Rattle.std.specs.Option.{ok_or}
use Rattle.moc_lists.specs.RangeList.{NumberSet}
use Rattle.moc_ranges.specs.Operations.{pixels}
use Rattle.moc_parts.specs.declared.command.Command.{Command}
use Rattle.moc_parts.specs.declared.command.Command.TheVariants.{Read}
use Rattle.moc_parts.specs.declared.reply.Reply.{Reply}
use Rattle.moc_parts.specs.declared.reply.Reply.TheVariants.{Cover}
use Rattle.moc_shared.specs.Clients.{call_of, TakesEffect, FailsOutOfMemory, number_of, record_of, MissesPart}
use Rattle.moc_shared.specs.declared.errors.Busy.{Busy}
use Rattle.moc_lines.specs.Language.{batch_of, command_of, replies_text}
use Rattle.moc_lines.specs.declared.error.LineError.{LineError}
use Rattle.moc_lines.specs.Places.{error_place}
use Rattle.moc_c.specs.Buffers.{Fills}
use Rattle.moc_c.specs.Contents.{Contents, with_set}
use Rattle.moc_c.specs.Membership.{IsNewMember, Membership}
use Rattle.moc_c.specs.CallResults.{success, memory, result_of, number_result}
use Rattle.moc_c.specs.declared.error.CallError.{CallError}
use Rattle.moc_c.specs.declared.error.CallError.TheVariants as error
use Rattle.moc_c.specs.declared.call_result.CallResult.{CallResult}
use Rattle.moc_c.specs.declared.client_state.ClientState.{ClientState}

-- ---- the state of a handle

-- no client, and no replies
abbrev pub no_client : ClientState
no_client = record { member = None; replies = None }

-- this member, and the replies of before
abbrev pub with_member : ClientState → Membership → ClientState
with_member s m = record { member = Some m; replies = s.replies }

-- the member of the handle, or the error that the handle has no member
abbrev pub member_of_handle : ClientState → Result Membership CallError
member_of_handle s = ok_or s.member error.NoMap

-- the value if the handle has no client, or the error that it has one
abbrev pub unless_in_use : {X : Type 0} → Option Membership → Result X CallError → Result X CallError
unless_in_use None r = r
unless_in_use (Some m) r = Err error.HandleInUse

-- the number of clients if a map can have as many
abbrev pub client_count : ℕ → Result ℕ CallError
client_count n = if nat_le 1 n && nat_le n 64 then Ok n else Err (error.BadCount n)

-- ---- a new map, and further clients

-- a client of a new map of this set with this number of clients; or the error; or an allocation fails
abbrev pub IsFirstClient : Result (NumberSet × ℕ) CallError → Result Membership CallError → Type 0
IsFirstClient (Ok x) (Ok m) = IsNewMember x.0 x.1 m
IsFirstClient (Ok x) (Err e) = e ≡ error.Memory
IsFirstClient (Err f) (Ok m) = ⊥
IsFirstClient (Err f) (Err e) = (e ≡ f) ⊎ (e ≡ error.Memory)

-- the handle has the member now, and the result is its client's number; or the result is the error, and nothing changes
abbrev pub StoresMember : ClientState → ClientState → Result Membership CallError → CallResult → Type 0
StoresMember old new (Ok m) o = (new ≡ with_member old m) × (o ≡ number_result (number_of m.client))
StoresMember old new (Err e) o = (new ≡ old) × (o ≡ result_of e)

-- the handle has a client of the new map, or the result is the error
abbrev pub BeginsMap : ClientState → ClientState → Result (NumberSet × ℕ) CallError → CallResult → Type 0
BeginsMap old new what o =
    (begin_member : Result Membership CallError) × IsFirstClient what begin_member × StoresMember old new begin_member o

-- the last client that the member can give away becomes a member of the same map; or there is none, or an allocation
-- fails, and the giver is unchanged
abbrev pub Gives : Membership → Membership → Result Membership CallError → Type 0
Gives old new (Ok m) =
    (old.unassigned ≡ new.unassigned ++ m.client ∷ []) × (new ≡ record old { unassigned = new.unassigned })
    × (m ≡ record { map = old.map; client = m.client; unassigned = [] })
Gives old new (Err e) = (new ≡ old) × ((e ≡ error.Memory) ⊎ ((e ≡ error.NoClient) × (old.unassigned ≡ [])))

-- the member of one handle gives a client to another handle; or the result is the error, and both are unchanged
abbrev pub Joins : ClientState → ClientState → ClientState → ClientState → Result Membership CallError → CallResult
    → Type 0
Joins old new other last (Ok m) o =
    (n : Membership) × (given : Result Membership CallError) × Gives m n given × (new ≡ with_member old n)
    × StoresMember other last given o
Joins old new other last (Err e) o = (new ≡ old) × (last ≡ other) × (o ≡ result_of e)

-- ---- calls on the map

-- the member after a call of its client: the map, the client's number and the further clients are unchanged
pub record IsAfter (old new : Membership) : Type 0 where
  pub same : new ≡ record old { client = new.client }
  pub number : number_of new.client ≡ number_of old.client
  pub own : (record_of old.client).number ≡ number_of old.client

-- the member's call of these commands is executed, with these replies
abbrev pub MemberEnds : Membership → Membership → List Command → List Reply → Type 0
MemberEnds old new cs r = TakesEffect old.map (call_of old.client cs r) (record_of old.client) (record_of new.client)

-- another client holds a part that the commands need, and the result names both; or an allocation fails
abbrev pub FailsTrying : Membership → Membership → List Command → CallResult → Type 0
FailsTrying old new cs o =
    ((b : Busy) × MissesPart old.map cs b (record_of old.client) (record_of new.client)
    × (o ≡ result_of (error.Busy b)))
    ⊎ (FailsOutOfMemory old.map cs (record_of old.client) (record_of new.client) × (o ≡ memory))

-- the call is executed, and its replies are kept; or it fails, and the replies of before are kept
abbrev pub CallsMap : ClientState → ClientState → Membership → Membership → List Command → CallResult → Type 0
CallsMap old new m n cs o =
    ((r : List Reply) × MemberEnds m n cs r × (new ≡ record { member = Some n; replies = Some r }) × (o ≡ success))
    ⊎ (FailsTrying m n cs o × (new ≡ with_member old n))

-- the commands of a line are executed; or the line is invalid, or an allocation fails, and nothing changes
abbrev pub ExecutesLine : ClientState → ClientState → Membership → List ℕ → Result (List Command) LineError → CallResult
    → Type 0
ExecutesLine old new m line (Ok cs) o =
    ((n : Membership) × IsAfter m n × CallsMap old new m n cs o) ⊎ ((new ≡ old) × (o ≡ memory))
ExecutesLine old new m line (Err e) o =
    (new ≡ old) × ((o ≡ result_of (error.Line e (error_place e line))) ⊎ (o ≡ memory))

-- as `ExecutesLine` for the member of a handle; or the handle has no member
abbrev pub Applies : ClientState → ClientState → Result Membership CallError → List ℕ → CallResult → Type 0
Applies old new (Ok m) line o = ExecutesLine old new m line (batch_of command_of line) o
Applies old new (Err e) line o = (new ≡ old) × (o ≡ result_of e)

-- ---- the set of a map

-- the command that reads all pixels
abbrev pub whole_sky : List Command
whole_sky = Read (record { set = pixels; coarse = None }) ∷ []

-- the set that was read is stored under the next id, which is the result; or the call fails, and the store is unchanged
abbrev pub StoresRead : Membership → Membership → Contents → Contents → CallResult → Type 0
StoresRead m n store store' o =
    ((a : NumberSet) × MemberEnds m n whole_sky (Cover a ∷ []) × (store' ≡ with_set store a)
    × (o ≡ number_result store.next))
    ⊎ (FailsTrying m n whole_sky o × (store' ≡ store))

-- the map's set is stored; or the result is the error, or an allocation fails, and nothing changes
abbrev pub StoresMapSet : ClientState → ClientState → Contents → Contents → Result Membership CallError → CallResult
    → Type 0
StoresMapSet old new store store' (Ok m) o =
    ((n : Membership) × IsAfter m n × (new ≡ with_member old n) × StoresRead m n store store' o)
    ⊎ ((new ≡ old) × (store' ≡ store) × (o ≡ memory))
StoresMapSet old new store store' (Err e) o = (new ≡ old) × (store' ≡ store) × (o ≡ result_of e)

-- ---- replies as text

-- the text of the replies to the last line; empty before the first line
abbrev pub answer_of : Option (List Reply) → List ℕ
answer_of None = []
answer_of (Some r) = replies_text r ++ 10 ∷ []

-- the text of the replies to the last line fills a buffer, or an allocation fails
abbrev pub FillsAnswer : ClientState → List ℕ → List ℕ → CallResult → Type 0
FillsAnswer s old new o = Fills (answer_of s.replies) old new o ⊎ ((new ≡ old) × (o ≡ memory))
