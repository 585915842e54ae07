use Rattle.std.proofs.Common.{◌≡◌, ◌++◌, List, Option, ℕ}
use Rattle.moc_lists.specs.RangeList.{IsNormal}
use Rattle.moc_text.specs.Private.AsciiWriting.{remaining_text, runs_in}
use Rattle.moc_text.specs.declared.ascii.writing.Run.{Run}
use Rattle.moc_text.proofs.ascii.writing.push_runs.Given as goal

abbrev pub invariant-loop-first : goal.invariant-loop-first
invariant-loop-first g l = record {
  continues : (goal.iterator-loop-first g).can_next l.first-iterator × (goal.iterator-loop-first g).is_finite l.first-iterator;
  normal : IsNormal l.first-iterator;
  written : (stated : Option ℕ) (rest : List Run) → l.text ++ remaining_text stated l.before (runs_in l.order l.first-iterator ++ rest) ≡ l.fn.text ++ remaining_text stated l.fn.before (runs_in l.order l.fn.ranges ++ rest);
}
