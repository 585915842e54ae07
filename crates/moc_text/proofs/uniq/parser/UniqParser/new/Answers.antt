use Rattle.std.proofs.Common.{[], refl, sym, subst}
use Rattle.std.specs.FinSet as set
use Rattle.moc_lists.specs.RangeList.{NumberSet}
use Rattle.moc_text.specs.Private.UniqReading.{AreLinesRead}
use Rattle.moc_text.proofs.UniqLines.{lines_start}
use Rattle.moc_text.proofs.UniqSegments.{ends_empty}
use Rattle.moc_text.proofs.uniq.parser.UniqParser.new.Goals as goal

pub returns : goal.returns
returns c = record {
  before = [];
  parts = sym c.new-2.ensures.items;
  ends = ends_empty;
  read = subst (λ (a : NumberSet). AreLinesRead 1 [] set.empty 1 [] a) (sym c.new.ensures) (lines_start 1 [] set.empty);
  without_error = refl;
}
