-- Intermediate results of calls that make sets or execute batches.
use Rattle.std.specs.Prelude.{◌≡◌, ◌⊎◌, ◌∷◌, [], ℕ, List, Result, Ok, Err, String, string_bytes}
use Rattle.std.specs.declared.alloc.Global.{Global}
use Rattle.moc_lists.specs.RangeList.{NumberSet}
use Rattle.moc_ranges.specs.declared.errors.Memory.{Memory}
use Rattle.moc_parts.specs.declared.command.Command.{Command}
use Rattle.moc_parts.specs.declared.reply.Reply.{Reply}
use Rattle.moc_parts.specs.declared.reply.Reply.TheVariants.{Cover}
use Rattle.moc_lines.specs.declared.error.LineError.{LineError}
use Rattle.moc_lines.specs.declared.error.LineError.TheVariants.{Memory as LineMemory}
use Rattle.moc_lines.specs.Places.{error_place}
use Rattle.moc_shared.specs.Clients.{AfterTryApply, record_of}
use Rattle.moc_shared.specs.declared.errors.TryError.{TryError}
use Rattle.moc_shared.specs.declared.errors.TryError.TheVariants as try
use Rattle.moc_c.specs.Answers.{Makes}
use Rattle.moc_c.specs.Contents.{Contents}
use Rattle.moc_c.specs.Membership.{Membership}
use Rattle.moc_c.specs.CallResults.{memory, result_of}
use Rattle.moc_c.specs.Sharing.{IsAfter, MemberEnds, whole_sky}
use Rattle.moc_c.specs.declared.error.CallError.{CallError}
use Rattle.moc_c.specs.declared.error.CallError.TheVariants as error
use Rattle.moc_c.specs.declared.call_result.CallResult.{CallResult}

-- a set is stored under the next id if it was allocated
abbrev pub MakesIf : Contents → Contents → Result NumberSet Memory → CallResult → Type 0
MakesIf old new (Ok a) o = Makes old new (Ok a) o
MakesIf old new (Err e) o = (o ≡ memory) × (new ≡ old)

-- the set that was built from an array is stored; or the result is the error, and nothing changes
abbrev pub KeepsParsed : Contents → Contents → Result NumberSet CallError → CallResult → Type 0
KeepsParsed old new (Ok a) o = Makes old new (Ok a) o
KeepsParsed old new (Err e) o = (o ≡ result_of e) × (new ≡ old)

-- the error of a batch that was not executed
abbrev pub try_error : TryError → CallError
try_error (try.Busy b) = error.Busy b
try_error try.Memory = error.Memory

-- the member's call of these commands is executed, with these replies, or fails
abbrev pub Tries : Membership → Membership → List Command → Result (List Reply) TryError → Type 0
Tries old new cs (Ok r) = IsAfter old new × MemberEnds old new cs r
Tries old new cs (Err e) = IsAfter old new × AfterTryApply old.map cs e (record_of old.client) (record_of new.client)

-- the error of a call with an invalid line: the error of the line and its place, unless an allocation failed
abbrev pub IsLineError : List ℕ → LineError → CallError → Type 0
IsLineError line e result =
    (result ≡ error.Memory) ⊎ ((e ≡ LineMemory → ⊥) × (result ≡ error.Line e (error_place e line)))

-- the reply of a call of one command as a list, or its error
abbrev pub replies_of : Result Reply TryError → Result (List Reply) TryError
replies_of (Ok r) = Ok (r ∷ [])
replies_of (Err e) = Err e

-- the member's call is executed and replies this set; or it fails, or the set cannot be copied
abbrev pub ReadsWholeSky : Membership → Membership → Result NumberSet TryError → Type 0
ReadsWholeSky old new (Ok a) = IsAfter old new × MemberEnds old new whole_sky (Cover a ∷ [])
ReadsWholeSky old new (Err e) =
    (IsAfter old new × AfterTryApply old.map whole_sky e (record_of old.client) (record_of new.client))
    ⊎ ((new ≡ old) × (e ≡ try.Memory))

-- the bytes of a text
abbrev pub bytes_of_text : Result (String Global) CallError → Result (List ℕ) CallError
bytes_of_text (Ok t) = Ok (string_bytes t)
bytes_of_text (Err e) = Err e
