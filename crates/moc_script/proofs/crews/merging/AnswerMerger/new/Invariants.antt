-- The lanes so far have their answers, and the capacity suffices for the others.
use Rattle.std.proofs.Common.{◌≡◌, ◌≤◌, length, take}
use Rattle.std.specs.Prelude.{vec_items, vec_len, vec_capacity}
use Rattle.moc_script.proofs.crews.merging.AnswerMerger.new.Given as goal

abbrev pub invariant-loop-texts : goal.invariant-loop-texts
invariant-loop-texts l =
    (vec_items l.walks ≡ take l.texts-index l.answers) × (vec_len l.walks ≡ l.texts-index)
    × (length l.answers ≤ vec_capacity l.walks)
