-- The promises of the handles of the lanes' threads.
use Rattle.std.specs.Prelude.{◌≡◌, ◌<◌, ℕ, List, length, slice_index_or, Result}
use Rattle.std.specs.declared.thread.PromisedHandle.{PromisedHandle}
use Rattle.moc_shared.specs.declared.map.SharedMap.{SharedMap}
use Rattle.moc_script.specs.declared.crews.lane.LaneOutput.{LaneOutput}
use Rattle.moc_script.specs.declared.crews.lane.LaneFailure.{LaneFailure}
use Rattle.moc_script.specs.declared.crews.threads.Work.{Work}

-- the work is that of this lane
pub record IsWorkOf (map : SharedMap) (lanes : ℕ) (input : List ℕ) (lane : ℕ) (work : Work) : Type 0 where
  pub map_is : work.job.map.now ≡ map
  pub input_is : work.job.input.now ≡ input
  pub lanes_are : work.job.lanes ≡ lanes
  pub lane_is : work.lane ≡ lane

-- each handle promises the result of its lane
abbrev pub ArePromised : SharedMap → ℕ → List ℕ → List (PromisedHandle (Result LaneOutput LaneFailure) Work) → Type 0
ArePromised map lanes input handles =
    (length handles ≡ lanes)
    × ((lane : ℕ) (d : PromisedHandle (Result LaneOutput LaneFailure) Work) → lane < lanes
    → IsWorkOf map lanes input lane (slice_index_or handles lane d).promise)
