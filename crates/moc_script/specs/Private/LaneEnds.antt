-- The results of the lanes.
use Rattle.std.specs.Prelude.{◌≡◌, ◌<◌, ◌≤◌, ℕ, List, [], ◌∷◌, ◌++◌, length, slice_index_or, Result, Ok, Err}
use Rattle.moc_parts.specs.declared.command.Command.{Command}
use Rattle.moc_parts.specs.declared.reply.Reply.{Reply}
use Rattle.moc_shared.specs.declared.client.Client.{Client}
use Rattle.moc_shared.specs.declared.map.SharedMap.{SharedMap}
use Rattle.moc_shared.specs.Batches.{BatchCall, BatchRecord, batch_answer as object}
use Rattle.moc_shared.specs.Clients.{number_of, record_of, IsClientOf}
use Rattle.moc_shared.specs.History.{call_by}
use Rattle.moc_text.specs.Lines.{lines_of}
use Rattle.moc_script.specs.Crews.{IsNonblankLine}
use Rattle.moc_lines.specs.Runs.{script_rules}
use Rattle.moc_script.specs.Private.Input.{lane_lines}
use Rattle.moc_script.specs.Private.LaneWork.{MadeByLine, Performs}
use Rattle.moc_script.specs.declared.crews.lane.LaneOutput.{LaneOutput}
use Rattle.moc_script.specs.declared.crews.lane.LaneFailure.{LaneFailure}
use Rattle.moc_script.specs.declared.crews.lane.LaneFailure.TheVariants.{OutOfMemory, Stopped}

-- the record has this client only, and exactly these calls of it
abbrev pub HasMade : ℕ → List BatchCall → BatchRecord → Type 0
HasMade client calls r = r.own ≡ record { client = client; made = calls } ∷ []

-- the line made these calls, after the former ones, and has this answer
abbrev pub IsLineAnswer : ℕ → List ℕ → BatchRecord → BatchRecord → List ℕ → Type 0
IsLineAnswer client line old new text =
    (calls : List BatchCall) × MadeByLine object script_rules line calls text
    × ((made : List BatchCall) → HasMade client made old → HasMade client (made ++ calls) new)

-- the client, which keeps its number, made one call with these commands and replies, after the former calls
pub record MakesCall (commands : List Command) (replies : List Reply) (old new : Client) : Type 0 where
  pub number : number_of new ≡ number_of old
  pub made : (made : List BatchCall) → HasMade (number_of old) made (record_of old)
      → HasMade (number_of old) (made ++ call_by (number_of old) commands replies ∷ []) (record_of new)

-- the line at which an allocation of a lane failed, or the lane stopped
abbrev pub failure_line : LaneFailure → ℕ
failure_line (OutOfMemory line) = line
failure_line (Stopped line) = line

-- an allocation failure takes precedence over a stop, and the lesser line among failures of one kind
abbrev pub Precedes : LaneFailure → LaneFailure → Type 0
Precedes (OutOfMemory line) (OutOfMemory other) = line ≤ other
Precedes (OutOfMemory line) (Stopped other) = Unit {0}
Precedes (Stopped line) (OutOfMemory other) = ⊥
Precedes (Stopped line) (Stopped other) = line ≤ other

-- The lane with this number has processed its lines of a script, by calls of its client, and has their answers; or an
-- allocation failed, or the lane stopped, at a line that is not blank.
abbrev pub IsLaneEnd : SharedMap → ℕ → List ℕ → ℕ → Result LaneOutput LaneFailure → Type 0
IsLaneEnd map lanes input lane (Ok end) =
    IsClientOf map end.client × (number_of end.client ≡ lane)
    × ((made : List BatchCall) × HasMade lane made (record_of end.client)
    × Performs object script_rules (lane_lines lanes input lane) made end.answers)
IsLaneEnd map lanes input lane (Err e) = IsNonblankLine (failure_line e) (lines_of input)

-- each of the lanes has processed its lines of a script, or failed or stopped at one
abbrev pub AreLaneEnds : SharedMap → ℕ → List ℕ → List (Result LaneOutput LaneFailure) → Type 0
AreLaneEnds map lanes input ends =
    (length ends ≡ lanes)
    × ((lane : ℕ) (d : Result LaneOutput LaneFailure) → lane < lanes
    → IsLaneEnd map lanes input lane (slice_index_or ends lane d))
