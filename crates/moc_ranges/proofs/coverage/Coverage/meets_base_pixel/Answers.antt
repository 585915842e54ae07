use Rattle.std.proofs.Common.{◌∙◌, inl, inr}
use Rattle.moc_ranges.proofs.Views.{no_part, none_in_part}
use Rattle.moc_ranges.proofs.Looking.{meets_base}
use Rattle.moc_ranges.proofs.coverage.Coverage.meets_base_pixel.Goals as goal
use Rattle.moc_ranges.proofs.coverage.Coverage.meets_base_pixel.Goals.{then-is_empty-via-then-is_empty}
use Rattle.moc_ranges.proofs.coverage.Coverage.meets_base_pixel.Goals.{then-is_empty-via-else-is_empty+then-base_pixel-gt11}

pub returns : goal.returns
returns c = rw c.from-from.ensures at c.meets_range.ensures ∙ meets_base c.args.self.now c.args.base_pixel

pub returns-then-is_empty : goal.returns-then-is_empty
returns-then-is_empty c =
    none_in_part c.args.self.now c.args.base_pixel (no_part c.args.self.now c.args.base_pixel c.is_empty.ensures.within (elim c.then-is_empty.branch [
      | then-is_empty-via-then-is_empty w ↦ inl (c.is_empty.ensures.empty.0 w.if-is_empty.true)
      | then-is_empty-via-else-is_empty+then-base_pixel-gt11 w ↦ inr w.if-base_pixel-gt11.true
    ]))
