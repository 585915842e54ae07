use Rattle.std.proofs.Common.{◌≡◌, ◌≤◌, ℕ, List, length}
use Rattle.moc_text.specs.Private.AsciiReading.{Progress}
use Rattle.moc_text.proofs.ascii.reading.Reading.read_words.Given as goal

abbrev pub invariant-loop-rest : goal.invariant-loop-rest
invariant-loop-rest l =
    (length l.rest ≤ l.len)
    × ((text : List ℕ) → length text ≡ l.len → Progress text l.bytes l.fn.self.cells l.fn.self.order l.fn.self.moc_order
    → Progress text l.rest l.self.cells l.self.order l.self.moc_order)

abbrev pub decreases-loop-rest : goal.decreases-loop-rest
decreases-loop-rest l = length l.rest
