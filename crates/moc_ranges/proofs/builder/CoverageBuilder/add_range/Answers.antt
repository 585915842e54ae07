use Rattle.std.proofs.Common.{◌∙◌, ap}
use Rattle.std.specs.Prelude.{if◌then◌else◌}
use Rattle.std.specs.FinSet as set
use Rattle.moc_blocks.specs.RangeList.{numbers, set_of}
use Rattle.moc_ranges.proofs.Gathering.{builder_pixels_after_ascending}
use Rattle.moc_ranges.proofs.builder.CoverageBuilder.add_range.Goals as goal

pub returns-then-branch-clause-added : goal.returns-then-branch-clause-added
returns-then-branch-clause-added c =
    let ascending = c.self.inside.ascending.items in
    let added = numbers c.args.from c.args.to in
    let is = c.in_ok-append.ensures.set ∙ ap (λ b. if b then set.union (set_of ascending) added else set_of ascending) c.if-branch.true in
    builder_pixels_after_ascending c.self.inside.joined ascending c.append.new.ranges.items c.self.inside.waiting.items added is ∙ ap (λ a. set.union a added) c.self.view_is
