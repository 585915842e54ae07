-- The results so far are successes, and the others follow them.
use Rattle.std.specs.Prelude.{◌≡◌, ℕ, ◌+◌, ◌<◌, get_or, vec_items, vec_len, Ok}
use Rattle.std.specs.Vec.Iter.{into_iter_items, into_iter_len}
use Rattle.moc_script.proofs.crews.gathering.all_outputs.Given as goal

abbrev pub invariant-loop-end : goal.invariant-loop-end
invariant-loop-end l =
    let done = vec_len l.done in let rest = l.end-iterator in
    (done + into_iter_len rest ≡ vec_len l.fn.ends)
    × ((k : ℕ) (d : _) → k < into_iter_len rest → get_or (into_iter_items rest) k d ≡ get_or (vec_items l.fn.ends) (done + k) d)
    × ((k : ℕ) (d : _) (e : _) → k < done → get_or (vec_items l.fn.ends) k e ≡ Ok (get_or (vec_items l.done) k d))
