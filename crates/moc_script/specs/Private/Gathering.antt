-- Collection of the results of the lanes.
use Rattle.std.specs.Prelude.{◌≡◌, ◌⊎◌, ◌<◌, ◌+◌, ℕ, List, [], length, slice_index_or, Option, Some, None, Contains}
use Rattle.std.specs.Prelude.{Result, Ok, Err}
use Rattle.moc_parts.specs.declared.command.Command.{Command}
use Rattle.moc_parts.specs.declared.reply.Reply.{Reply}
use Rattle.moc_shared.specs.declared.client.Client.{Client}
use Rattle.moc_shared.specs.declared.map.SharedMap.{SharedMap}
use Rattle.moc_shared.specs.declared.record.Calls.{Calls}
use Rattle.moc_shared.specs.Batches.{BatchCall, BatchRecord, batch_answer as object}
use Rattle.moc_shared.specs.Clients.{record_of, IsClientOf}
use Rattle.moc_lines.specs.Runs.{script_rules}
use Rattle.moc_script.specs.Private.Input.{lane_lines}
use Rattle.moc_script.specs.Private.LaneWork.{Performs}
use Rattle.moc_script.specs.Private.LaneEnds.{Precedes, IsLaneEnd, failure_line}
use Rattle.moc_text.specs.Lines.{lines_of}
use Rattle.moc_script.specs.Crews.{IsFailedLine}
use Rattle.moc_lines.specs.declared.run_error.RunError.{RunError}
use Rattle.moc_lines.specs.declared.run_error.RunError.TheVariants.{Memory, Spawn}
use Rattle.moc_script.specs.declared.crews.lane.LaneOutput.{LaneOutput}
use Rattle.moc_script.specs.declared.crews.lane.LaneFailure.{LaneFailure}

-- the failure that takes precedence over all others, or that there is none
abbrev pub IsFirstFailure : List (Result LaneOutput LaneFailure) → Option LaneFailure → Type 0
IsFirstFailure ends None = (e : LaneFailure) → ¬ Contains ends (Err e)
IsFirstFailure ends (Some first) =
    Contains ends (Err first) × ((e : LaneFailure) → Contains ends (Err e) → Precedes first e)

-- The error of lanes with these results names the least line at which an allocation of a lane failed; if none did, the
-- least at which one stopped; or, if all lanes have processed their lines, the line after the last.
abbrev pub NamesFirst : List ℕ → List (Result LaneOutput LaneFailure) → RunError → Type 0
NamesFirst input ends (Memory line) =
    ((first : LaneFailure) × IsFirstFailure ends (Some first) × (line ≡ failure_line first))
    ⊎ (IsFirstFailure ends None × (line ≡ length (lines_of input) + 1))
NamesFirst input ends _ = ⊥

-- an error that a crew may have after it has read this input, and before it writes
abbrev pub IsLanesError : List ℕ → RunError → Type 0
IsLanesError input (Memory line) = IsFailedLine line (lines_of input)
IsLanesError input Spawn = Unit {0}
IsLanesError input _ = ⊥

-- each of the lanes has processed its lines of a script
abbrev pub AreLaneOutputs : SharedMap → ℕ → List ℕ → List LaneOutput → Type 0
AreLaneOutputs map lanes input done =
    (length done ≡ lanes)
    × ((lane : ℕ) (d : LaneOutput) → lane < lanes
    → IsLaneEnd map lanes input lane (Ok (slice_index_or done lane d)))

-- a client's recorded calls
abbrev pub CallsMade : Type 0
CallsMade = Calls (List Command) (List Reply)

-- the record has these calls of the lane's client, which are those of the lane's lines with these answers
abbrev pub HasLane : BatchRecord → ℕ → List (List ℕ) → List (List ℕ) → Type 0
HasLane r lane lines texts =
    (made : List BatchCall) × Contains r.own (record { client = lane; made = made })
    × Performs object script_rules lines made texts

-- the record of the third client has all calls of the record of the first, if there is one, and of the second
abbrev pub HasBoth : Option Client → Client → Client → Type 0
HasBoth None second both = both ≡ second
HasBoth (Some first) second both =
    (q : CallsMade) → (Contains (record_of first).own q → Contains (record_of both).own q)
    × (Contains (record_of second).own q → Contains (record_of both).own q)

-- the client has the calls of the lanes below k, of all lanes that a script is dealt to
abbrev pub HasLanes : ℕ → ℕ → List ℕ → List (List (List ℕ)) → Client → Type 0
HasLanes k lanes input answers c =
    (lane : ℕ) → lane < k
    → HasLane (record_of c) lane (lane_lines lanes input lane) (slice_index_or answers lane [])

-- the client has the calls of the lanes below k; there is no client if k is 0
abbrev pub IsGathered : SharedMap → ℕ → ℕ → List ℕ → List (List (List ℕ)) → Option Client → Type 0
IsGathered map k lanes input answers None = k ≡ 0
IsGathered map k lanes input answers (Some c) = IsClientOf map c × HasLanes k lanes input answers c
