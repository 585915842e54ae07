-- The output is the answers of the lanes to the input.
use Rattle.std.proofs.Common.{List, ℕ, Result, Err, subst}
use Rattle.moc_text.specs.Lines.{lines_of}
use Rattle.moc_lines.specs.declared.run_error.RunError.{RunError}
use Rattle.moc_script.specs.Crews.{CrewEnds, nonblank_lines}
use Rattle.moc_script.specs.Private.Gathering.{IsLanesError}
use Rattle.moc_script.specs.Private.Joining.{EndsWriting, AreCrewAnswers}
use Rattle.moc_script.proofs.Crewing.{crew_unanswered, crew_unread}
use Rattle.moc_script.proofs.Gathered.{result_passed_on}
use Rattle.moc_script.proofs.crews.crew.Goals as goal

pub returns-in_err-input-clause-ends : goal.returns-in_err-input-clause-ends
returns-in_err-input-clause-ends g c =
    let fails = c.in_err-input.ensures.fails in
    result_passed_on c.from_residual.result c.in_err-input.field-0.0
    (CrewEnds c.args.lanes.number (g.R.Source.reading c.args.reader.now) (g.R.Source.reading c.read_all.new.reader) (g.W.Sink.writing c.args.writer.now) (g.W.Sink.writing c.args.writer.now)) c.from_residual.ensures.1
    (crew_unread c.args.lanes.number _ _ (g.W.Sink.writing c.args.writer.now) fails.0 c.in_err-input.field-0.0 fails.1 fails.2)

pub returns-in_err-crew_output-clause-ends : goal.returns-in_err-crew_output-clause-ends
returns-in_err-crew_output-clause-ends g c =
    let input = c.in_ok-input.input.items in
    let error = c.in_err-crew_output.field-0.0 in
    let reads = c.in_ok-input.ensures.all in
    result_passed_on c.from_residual-in_err-crew_output.result error
    (CrewEnds c.args.lanes.number (g.R.Source.reading c.args.reader.now) (g.R.Source.reading c.read_all.new.reader) (g.W.Sink.writing c.args.writer.now) (g.W.Sink.writing c.args.writer.now)) c.from_residual-in_err-crew_output.ensures.1
    (crew_unanswered c.args.lanes.number input _ _ (g.W.Sink.writing c.args.writer.now) error reads.0 reads.1
    (subst (λ (l : List ℕ). IsLanesError l error) c.deref.ensures.value c.in_err-crew_output.ensures.line))

pub returns-clause-ends : goal.returns-clause-ends
returns-clause-ends g c =
    let input = c.in_ok-input.input.items in
    let output = c.in_ok-crew_output.crew_output in
    let answered : AreCrewAnswers c.args.lanes.number (nonblank_lines (lines_of input)) output.answers.items output.cover.items =
    subst (λ (l : List ℕ). AreCrewAnswers c.args.lanes.number (nonblank_lines (lines_of l)) output.answers.items output.cover.items) c.deref.ensures.value c.in_ok-crew_output.ensures.crew_output in
    let ends : EndsWriting input output.answers.items output.cover.items (g.W.Sink.writing c.args.writer.now) (g.W.Sink.writing c.write_output.new.writer) c.write_output.result =
    subst (λ (l : List ℕ). EndsWriting l output.answers.items output.cover.items (g.W.Sink.writing c.args.writer.now) (g.W.Sink.writing c.write_output.new.writer) c.write_output.result) c.deref-2.ensures.value c.write_output.ensures.ends in
    ends c.args.lanes.number (g.R.Source.reading c.args.reader.now) (g.R.Source.reading c.read_all.new.reader) answered c.in_ok-input.ensures.all
