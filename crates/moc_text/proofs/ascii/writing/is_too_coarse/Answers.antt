use Rattle.std.proofs.Common.{◌≡◌, Some, sym, ◌∙◌, lt-ltb, ltb-true, inl, inr}
use Rattle.std.proofs.lemmas.Bool.{cases_lt}
use Rattle.moc_ranges.specs.Cells.{cells_of}
use Rattle.moc_text.specs.AsciiText.{deepest_cell}
use Rattle.moc_text.proofs.Deepest.{deepest_is_deeper, none_is_deeper}
use Rattle.moc_text.proofs.ascii.writing.is_too_coarse.Goals as goal

pub returns-in-Some-Some : goal.returns-in-Some-Some
returns-in-Some-Some c = λ set same.
    let cells = cells_of set in
    let deepest = c.in-Some-Some.deepest in
    let stated = c.in-Some-Some.stated in
    let is : deepest_cell cells ≡ Some deepest = sym same ∙ c.in-Some-Some.is-0 in (
      λ below. rw c.in-Some-Some.is-1 (deepest_is_deeper cells stated deepest is (ltb-true _ _ below)),
      λ deeper. elim (cases_lt stated deepest) [
        | inl lt ↦ lt-ltb _ _ lt
        | inr le ↦ absurd (none_is_deeper cells stated deepest is le (rw c.in-Some-Some.is-1 at deeper))
      ],
    )
