-- The lines that were passed belong to other lanes, and are counted.
use Rattle.std.proofs.Common.{◌≡◌, ◌+◌, ◌++◌, ℕ, List, length}
use Rattle.moc_text.specs.Lines.{lines_of}
use Rattle.moc_script.specs.Private.Input.{remaining_lines}
use Rattle.moc_script.proofs.crews.lines.LaneLines.next_line.Given as goal

abbrev pub invariant-loop-line : goal.invariant-loop-line
invariant-loop-line l = record {
  left : remaining_lines l.self ≡ remaining_lines l.fn.self;
  passed : (more : List (List ℕ)) × (lines_of l.fn.self.bytes.now ≡ more ++ lines_of l.self.bytes.now) × (l.self.passed ≡ l.fn.self.passed + length more);
}

abbrev pub decreases-loop-line : goal.decreases-loop-line
decreases-loop-line l = length l.self.bytes.now
