use Rattle.std.proofs.Common.{◌∙◌, ◌≡◌, ap, arith, eqb-true, sym, vec_len}
use Rattle.moc_blocks.specs.RangeList.{set_of}
use Rattle.moc_ranges.proofs.Gathering.{builder_pixels_ascending}
use Rattle.moc_ranges.proofs.builder.CoverageBuilder.build.Goals as goal

pub returns-then-is_empty-2 : goal.returns-then-is_empty-2
returns-then-is_empty-2 c =
    let none : vec_len c.self.inside.waiting ≡ 0 = eqb-true _ _ (sym c.is_empty.ensures ∙ c.if-is_empty.true) in
    c.of.ensures ∙ ap set_of c.in_ok-list_from_ranges.ensures
    ∙ sym (builder_pixels_ascending c.self.inside.joined c.self.inside.ascending.items c.self.inside.waiting.items (c.is_empty-then-is_empty.ensures.empty.0 c.if-is_empty-2.true) (omega arith))
    ∙ c.self.view_is
