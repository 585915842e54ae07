use Rattle.std.proofs.Common.{◌∙◌}
use Rattle.moc_ranges.proofs.Gathering.{builder_pixels_of_merged}
use Rattle.moc_ranges.proofs.builder.CoverageBuilder.new.Goals as goal

pub returns : goal.returns
returns c = builder_pixels_of_merged c.empty.result c.new.result.items c.new-2.result.items c.new.ensures.items c.new-2.ensures.items ∙ c.empty.ensures
