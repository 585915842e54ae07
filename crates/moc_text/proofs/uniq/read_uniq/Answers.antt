use Rattle.std.proofs.Common.{◌≡◌, [], None, Some, sym, subst, ◌∙◌, inl, inr}
use Rattle.std.proofs.lemmas.Result.{err_from_is_err_and}
use Rattle.moc_lists.specs.RangeList.{NumberSet}
use Rattle.moc_text.specs.UniqList.{uniq_error, RepresentsUniq}
use Rattle.moc_text.specs.Private.UniqReading.{AreLinesRead}
use Rattle.moc_text.specs.declared.uniq.UniqError.TheVariants.{Memory}
use Rattle.moc_text.proofs.UniqLines.{lines_represent_uniq, set_is_unique}
use Rattle.moc_text.proofs.uniq.read_uniq.Goals as goal
use Rattle.moc_text.proofs.uniq.read_uniq.Goals.{In_ok-read_lines}

pub returns-in_err-read_lines-clause-error : goal.returns-in_err-read_lines-clause-error
unfolding uniq_error
returns-in_err-read_lines-clause-error c =
    let p = err_from_is_err_and c.from_residual.result c.from_residual.ensures.1 in
    rw (p.1, p.2) c.in_err-read_lines.ensures

pub returns-in_err-read_lines-clause-reading : goal.returns-in_err-read_lines-clause-reading
unfolding uniq_error
returns-in_err-read_lines-clause-reading c = λ a represents.
    let p = err_from_is_err_and c.from_residual.result c.from_residual.ensures.1 in
    rw (p.1, p.2) (elim (c.in_err-read_lines.ensures) as (λ _. c.in_err-read_lines.field-0.0 ≡ Memory) [
      | inl memory ↦ memory
      | inr fault ↦ let no : None ≡ Some c.in_err-read_lines.field-0.0 = sym represents.without_error ∙ fault in absurd cc
    ])

represents : (c : In_ok-read_lines) → RepresentsUniq c.args.text.now c.read_lines.new.cells
represents c =
    lines_represent_uniq c.args.text.now c.in_ok-read_lines.field-0 c.read_lines.new.cells
    (subst (λ (s : NumberSet). AreLinesRead 1 c.args.text.now s c.in_ok-read_lines.field-0 [] c.read_lines.new.cells) c.new-cells.ensures c.in_ok-read_lines.ensures)

pub returns-clause-set : goal.returns-clause-set
returns-clause-set c = rw c.in_ok-build.ensures (represents (goal.at.returns-clause-set c).In_ok-read_lines)

pub returns-clause-reading : goal.returns-clause-reading
returns-clause-reading c = λ a represents_set.
    rw c.in_ok-build.ensures (set_is_unique c.args.text.now c.read_lines.new.cells a (represents (goal.at.returns-clause-reading c).In_ok-read_lines) represents_set)
