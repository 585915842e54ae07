use Rattle.std.proofs.Common.{◌-◌, ◌++◌, List, ℕ, length, take, drop, sym, ap, ◌∙◌}
use Rattle.moc_blocks.specs.Blocks.{concat}
use Rattle.moc_blocks.proofs.Basics.{first_item}
use Rattle.moc_lists.proofs.ranges.Ranges.current_range.Goals as goal

pub returns-in-len1-up : goal.returns-in-len1-up
returns-in-len1-up c =
    let inside = c.self.inside in
    let tail = concat inside.cursor.blocks.now ++ concat (concat inside.cursor.nodes.now) in
    (take (length inside.ranges.now - 1) (drop 1 inside.ranges.now) ++ tail, sym c.self.view_is ∙ ap (λ (l : List (ℕ × ℕ)). l ++ tail) (first_item inside.ranges.now (0, 0) c.in-len1-up.len_at_least))
