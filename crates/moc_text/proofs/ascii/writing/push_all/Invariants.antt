use Rattle.std.proofs.Common.{◌≡◌, ◌++◌, None}
use Rattle.std.specs.List.{join_with_byte}
use Rattle.moc_ranges.specs.Cells.{cells_of}
use Rattle.moc_text.specs.AsciiText.{runs_of, words_of}
use Rattle.moc_text.specs.Private.AsciiWriting.{cells_from, remaining_text}
use Rattle.moc_text.proofs.ascii.writing.push_all.Given as goal

-- the text so far and the text of the remaining orders are the whole text
abbrev pub invariant-loop-level : goal.invariant-loop-level
invariant-loop-level g l =
    l.text ++ remaining_text l.stated l.before (runs_of (cells_from l.level (cells_of l.set))) ≡ l.fn.text ++ join_with_byte 32 (words_of l.stated None (runs_of (cells_of l.set)))
