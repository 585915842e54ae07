use Rattle.std.proofs.Common.{◌≡◌, drop}
use Rattle.moc_parts.specs.Private.Drafts.{index_of_part_from}
use Rattle.moc_parts.proofs.lists.index_of_part.Given as goal

abbrev pub invariant-loop-i : goal.invariant-loop-i
invariant-loop-i l = index_of_part_from 0 l.lists l.fn.part ≡ index_of_part_from l.i (drop l.i l.lists) l.fn.part
