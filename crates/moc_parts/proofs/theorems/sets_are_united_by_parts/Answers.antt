use Rattle.moc_parts.proofs.Twelve.{within_parts_are_parts, parts_within, contains_by_part}
use Rattle.moc_parts.proofs.theorems.sets_are_united_by_parts.Goals as goal

pub returns : goal.returns
returns c = record {
  parts = within_parts_are_parts;
  within = λ sets lie. parts_within sets (within_parts_are_parts sets lie);
  contains = contains_by_part;
}
