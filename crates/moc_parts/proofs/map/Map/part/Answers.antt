use Rattle.std.proofs.Common.{rules, ◌≡◌, ◌<◌, length, get_or, subst, ap, ◌∙◌}
use Rattle.moc_ranges.specs.Operations.{part_of, IsWithin, pixels}
use Rattle.moc_parts.proofs.Twelve.{parts_length, parts_within, get-parts}
use Rattle.moc_parts.proofs.map.Map.part.Goals as goal

pub index-requires-2 : goal.index-requires-2
index-requires-2 c = let twelve : length c.self.inside.parts.items ≡ 12 = parts_length c.self.inside.parts.items c.self.invariant in search rules

pub returns : goal.returns
returns c =
    record {
      part = c.index-2.ensures ∙ ap (λ b. get_or c.self.inside.parts.items b c.index-2.result.now) c.index.ensures.value
          ∙ get-parts c.self.inside.parts.items c.args.part c.index-2.result.now c.self.invariant (subst (λ b. b < 12) c.index.ensures.value c.index.ensures.in_range)
          ∙ ap (λ s. part_of s c.args.part) c.self.view_is;
      within = subst (λ s. IsWithin s pixels) c.self.view_is (parts_within c.self.inside.parts.items c.self.invariant);
    }
