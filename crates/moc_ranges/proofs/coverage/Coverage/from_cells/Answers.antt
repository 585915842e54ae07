use Rattle.std.specs.FinSet as set
use Rattle.std.proofs.Common.{◌≡◌, ap, subst, ◌∙◌, IfOk, OnOk}
use Rattle.std.proofs.lemmas.Iterator.{YieldsList-from_slice}
use Rattle.std.proofs.lemmas.Iterator.Adapters.{items_from_extend}
use Rattle.std.proofs.lemmas.Iterator.Consumers.{YieldsList-at, YieldsList-from_copied}
use Rattle.moc_blocks.specs.RangeList.{NumberSet}
use Rattle.moc_ranges.specs.Cells.{pixels_of}
use Rattle.moc_ranges.specs.Lemmas.{empty-union}
use Rattle.moc_ranges.proofs.coverage.Coverage.from_cells.Goals as goal

pub returns : goal.returns
returns c =
    let all = pixels_of c.args.cells.now in
    let added =
    items_from_extend c.extend.result c.extend.ensures.ran
    (YieldsList-from_copied (YieldsList-at c.copied.ensures.source (YieldsList-from_slice _ c.iter.ensures.rest))) in
    let pixels_of_builder : c.extend.new.self ≡ all =
    subst (λ r. OnOk r (c.extend.new.self ≡ set.union c.new-builder.result all)) c.in_ok-extend.was added
    ∙ ap (λ (a : NumberSet). set.union a all) c.new-builder.ensures ∙ empty-union all in
    subst (λ (a : NumberSet). IfOk c.build.result (λ s. s ≡ a)) pixels_of_builder c.build.ensures
