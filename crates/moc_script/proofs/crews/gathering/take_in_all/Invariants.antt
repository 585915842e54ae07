-- The clients so far are taken in, and the others follow them.
use Rattle.std.specs.Prelude.{◌≡◌, ℕ, ◌+◌, ◌<◌, get_or, vec_items, vec_len, Ok}
use Rattle.std.specs.Vec.Iter.{into_iter_items, into_iter_len}
use Rattle.moc_script.specs.Private.LaneEnds.{IsLaneEnd}
use Rattle.moc_script.specs.Private.Gathering.{IsGathered}
use Rattle.moc_script.proofs.crews.gathering.take_in_all.Given as goal

abbrev pub invariant-loop-end : goal.invariant-loop-end
invariant-loop-end l =
    let k = vec_len l.answers in let rest = l.end-iterator in
    (k + into_iter_len rest ≡ l.job.lanes)
    × ((j : ℕ) (d : _) → j < into_iter_len rest → IsLaneEnd l.job.map.now l.job.lanes l.job.input.now (k + j) (Ok (get_or (into_iter_items rest) j d)))
    × IsGathered l.job.map.now k l.job.lanes l.job.input.now (vec_items l.answers) l.all
