-- The handles so far are those of the lanes in order, the remaining clients follow them, and the capacity suffices for
-- these.
use Rattle.std.specs.Prelude.{◌≡◌, ℕ, ◌+◌, ◌<◌, ◌≤◌, get_or, vec_capacity, vec_items, vec_len}
use Rattle.std.specs.Vec.Iter.{into_iter_items, into_iter_len}
use Rattle.moc_shared.specs.Clients.{IsNewClient}
use Rattle.moc_script.specs.Private.Promises.{IsWorkOf}
use Rattle.moc_script.proofs.crews.threads.start.Given as goal

abbrev pub invariant-loop-client : goal.invariant-loop-client
invariant-loop-client g l =
    let done = vec_len l.handles in let rest = l.client-iterator in
    (done + into_iter_len rest ≡ l.job.lanes)
    × ((k : ℕ) (d : _) → k < into_iter_len rest → IsNewClient l.job.map.now (done + k) (get_or (into_iter_items rest) k d))
    × ((k : ℕ) (d : _) → k < done → IsWorkOf l.job.map.now l.job.lanes l.job.input.now k (get_or (vec_items l.handles) k d).promise)
    × (l.job.lanes ≤ vec_capacity l.handles)
