use Rattle.std.proofs.Common.{◌∙◌}
use Rattle.moc_ranges.proofs.Gathering.{builder_pixels_of_merged}
use Rattle.moc_ranges.proofs.builder.CoverageBuilder.merge_waiting.Goals as goal

pub returns : goal.returns
returns c = builder_pixels_of_merged c.in_ok-self-inside.field-0 _ _ c.clear.ensures.items c.clear-2.ensures.items ∙ c.in_ok-self-inside.ensures
