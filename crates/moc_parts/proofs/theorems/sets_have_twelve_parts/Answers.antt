use Rattle.std.specs.FinSet as set
use Rattle.moc_parts.proofs.Twelve.{length-parts_below, get-parts_below, parts_below_within, union_of-parts}
use Rattle.moc_parts.proofs.theorems.sets_have_twelve_parts.Goals as goal

pub returns : goal.returns
returns c = record {
  many = length-parts_below;
  each = λ a n b l. get-parts_below a n b set.empty l;
  lie = parts_below_within;
  whole = union_of-parts;
}
