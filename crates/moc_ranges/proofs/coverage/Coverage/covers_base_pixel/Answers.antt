use Rattle.std.proofs.Common.{◌∙◌, ap, sym, arith}
use Rattle.std.specs.FinSet as set
use Rattle.moc_blocks.specs.Lemmas.Members.{same_members}
use Rattle.moc_ranges.specs.Operations.{pixels, part_of}
use Rattle.moc_ranges.proofs.Views.{no_part_above_11, empty_is_subset}
use Rattle.moc_ranges.proofs.Looking.{base_members}
use Rattle.moc_ranges.proofs.coverage.Coverage.covers_base_pixel.Goals as goal

pub returns : goal.returns
returns c =
    let b = c.args.base_pixel in
    rw c.from-from.ensures at c.covers_range.ensures
    ∙ ap (λ s. set.is_subset s c.args.self.now) (same_members _ _ (λ q. sym (base_members b q (omega arith))))

pub returns-then-base_pixel-gt11 : goal.returns-then-base_pixel-gt11
returns-then-base_pixel-gt11 c =
    empty_is_subset (part_of pixels c.args.base_pixel) c.args.self.now (no_part_above_11 pixels (record { each = λ q has. has }) c.args.base_pixel c.if-base_pixel-gt11.true)
