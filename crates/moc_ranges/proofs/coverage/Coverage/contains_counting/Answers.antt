use Rattle.std.proofs.Common.{◌∙◌, ap, sym}
use Rattle.std.specs.FinSet as set
use Rattle.moc_blocks.specs.RangeList.{NumberSet}
use Rattle.moc_blocks.specs.Lemmas.Members.{contains-set_of}
use Rattle.moc_ranges.proofs.coverage.Coverage.contains_counting.Goals as goal

pub returns-clause-found : goal.returns-clause-found
returns-clause-found c =
    c.contains_counting.ensures.found ∙ sym (contains-set_of c.self.inside.list c.args.pixel)
    ∙ ap (λ (s : NumberSet). set.contains s c.args.pixel) c.self.view_is
