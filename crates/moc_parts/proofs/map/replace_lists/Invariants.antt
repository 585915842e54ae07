use Rattle.std.proofs.Common.{◌≡◌, ◌≤◌, ℕ, None, get_or, take}
use Rattle.moc_parts.specs.Private.Drafts.{current_lists}
use Rattle.moc_parts.proofs.map.replace_lists.Given as goal

abbrev pub invariant-loop-part : goal.invariant-loop-part
invariant-loop-part l =
    (l.parts ≡ current_lists l.fn.parts (take l.part-index l.fn.new_lists))
    × ((k : ℕ) → l.part-index ≤ k → get_or l.new_lists k None ≡ get_or l.fn.new_lists k None)
