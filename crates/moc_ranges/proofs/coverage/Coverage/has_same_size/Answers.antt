use Rattle.std.proofs.Common.{◌∙◌, ap, length, sym}
use Rattle.std.proofs.lemmas.Bool.{eq-eqb}
use Rattle.moc_blocks.specs.RangeList.{set_of}
use Rattle.moc_ranges.specs.Lemmas.Ranges.{same_normal}
use Rattle.moc_ranges.proofs.coverage.Coverage.has_same_size.Goals as goal

pub returns-in-Some-Some : goal.returns-in-Some-Some
returns-in-Some-Some c e =
    let mine = c.in-Some-Some.ensures.0 in
    let theirs = c.in-Some-Some.ensures'.0 in
    let lists = same_normal _ _ c.in-Some-Some.ensures.1 c.in-Some-Some.ensures'.1
    (ap set_of mine ∙ c.ranges-2.ensures.set ∙ e ∙ sym c.ranges-3.ensures.set ∙ sym (ap set_of theirs)) in
    eq-eqb _ _ (ap length lists)
