use Rattle.moc_parts.proofs.Twelve.{parts_below_are_parts, union_of_parts_below}
use Rattle.moc_parts.proofs.map.Map.new.Goals as goal

pub invariant_of-result : goal.invariant_of-result
invariant_of-result c = parts_below_are_parts c.in_ok-parts.parts.items c.args.start c.in_ok-parts.ensures.parts c.in_ok-parts.ensures.within

pub returns : goal.returns
returns c = union_of_parts_below c.in_ok-parts.parts.items c.args.start c.in_ok-parts.ensures.parts c.in_ok-parts.ensures.within
