use Rattle.std.proofs.Common.{◌≡◌, ◌<◌}
use Rattle.moc_ranges.specs.Operations.{IsWithin, pixels}
use Rattle.moc_parts.specs.Parts.{parts_below}
use Rattle.moc_parts.proofs.whole.split_by_base_pixel.Given as goal

abbrev pub invariant-loop-part : goal.invariant-loop-part
invariant-loop-part l = (l.parts.items ≡ parts_below l.set l.part-index) × (0 < l.part-index → IsWithin l.set pixels)
