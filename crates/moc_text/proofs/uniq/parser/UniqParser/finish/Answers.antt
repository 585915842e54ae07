use Rattle.std.proofs.Common.{ℕ, List, [], sym, subst, ◌∙◌, inl, inr}
use Rattle.std.specs.FinSet as set
use Rattle.std.proofs.lemmas.Result.{err_from_is_err_and}
use Rattle.moc_text.specs.UniqList.{uniq_error}
use Rattle.moc_text.specs.Parsers.{HasParsedUniq}
use Rattle.moc_text.specs.Private.UniqReading.{AreLinesRead}
use Rattle.moc_text.proofs.UniqLines.{lines_more, lines_represent_uniq}
use Rattle.moc_text.proofs.UniqSegments.{lines_last}
use Rattle.moc_text.proofs.uniq.parser.UniqParser.finish.Goals as goal
use Rattle.moc_text.proofs.uniq.parser.UniqParser.finish.Goals.{After-deref}

-- the lines before the last one
last : (c : After-deref) (text : List ℕ) → HasParsedUniq text c.args.self → AreLinesRead 1 text set.empty c.args.self.line c.deref.result.now c.args.self.cells
last c text before = subst (λ (t : List ℕ). AreLinesRead 1 text set.empty c.args.self.line t c.args.self.cells) (sym c.deref.ensures.value) (lines_last text c.args.self before)

pub returns-in_err-read_lines-clause-parsed : goal.returns-in_err-read_lines-clause-parsed
unfolding uniq_error
returns-in_err-read_lines-clause-parsed c = λ text before.
    let p = err_from_is_err_and c.from_residual.result c.from_residual.ensures.1 in
    rw (p.1, p.2) (elim c.in_err-read_lines.ensures [
      | inl memory ↦ inl memory
      | inr fault ↦ inr ((last (goal.at.returns-in_err-read_lines-clause-parsed c).After-deref text before).fault ∙ fault)
    ])

pub returns-clause-parsed : goal.returns-clause-parsed
returns-clause-parsed c = λ text before.
    rw c.in_ok-build.ensures (lines_represent_uniq text c.in_ok-read_lines.field-0 c.read_lines.new.cells
    (lines_more 1 c.args.self.line c.in_ok-read_lines.field-0 text c.deref.result.now [] set.empty c.args.self.cells c.read_lines.new.cells (last (goal.at.returns-clause-parsed c).After-deref text before) c.in_ok-read_lines.ensures))
