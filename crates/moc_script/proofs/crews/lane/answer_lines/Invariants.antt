-- The lines so far are answered, by calls of the lane's client.
use Rattle.std.proofs.Common.{◌≡◌, ◌++◌, ℕ, List, length}
use Rattle.moc_shared.specs.Batches.{BatchCall, batch_answer as object}
use Rattle.moc_shared.specs.Clients.{number_of, record_of, IsClientOf}
use Rattle.moc_lines.specs.Runs.{script_rules}
use Rattle.moc_script.specs.Private.Input.{HasPassed, lane_lines, remaining_lines}
use Rattle.moc_script.specs.Private.LaneWork.{Performs}
use Rattle.moc_script.specs.Private.LaneEnds.{HasMade}
use Rattle.moc_script.specs.Private.Texts.{split_by_len, total}
use Rattle.moc_script.proofs.crews.lane.answer_lines.Given as goal

abbrev pub invariant-loop-number : goal.invariant-loop-number
invariant-loop-number g l = record {
  ready : IsClientOf l.lane_client.map.now l.lane_client.client;
  of_map : IsClientOf l.job.map.now l.lane_client.client;
  map : l.lane_client.map.now ≡ l.job.map.now;
  number : number_of l.lane_client.client ≡ l.lane;
  sum : total l.lens.items ≡ length l.bytes.items;
  passed : HasPassed l.job.input.now l.left.passed l.left.bytes.now;
  done : (lines : List (List ℕ)) × (made : List BatchCall) × (lane_lines l.job.lanes l.job.input.now l.lane ≡ lines ++ remaining_lines l.left) × HasMade l.lane made (record_of l.lane_client.client)
      × Performs object script_rules lines made (split_by_len l.lens.items l.bytes.items);
}

abbrev pub decreases-loop-number : goal.decreases-loop-number
decreases-loop-number g l = length (remaining_lines l.left)
