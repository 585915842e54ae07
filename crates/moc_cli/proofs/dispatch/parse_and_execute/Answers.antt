-- Only parsing the arguments gives the status of an invalid command line.
use Rattle.std.proofs.Common.{◌∙◌, ap, inl, inr, sym}
use Rattle.moc_cli.proofs.StatusLemmas.{is_bad_command_line, done_by, explained_by, fails_by, accepts_none_by, memory_by, result_not_bad_command_line, accepts_some_by, reported_result, reported_status, is_success}
use Rattle.moc_cli.specs.Statuses.{code_of}
use Rattle.moc_cli.proofs.dispatch.parse_and_execute.Goals as goal
use Rattle.moc_cli.proofs.dispatch.parse_and_execute.Goals.{in-Ok+in-Some-1, in-Ok+in-None-1, in-Err+in-Some-1, in-Err+in-None-1}

pub returns-clause-status : goal.returns-clause-status
returns-clause-status g c = (_, c.code.ensures)

pub returns-clause-failure : goal.returns-clause-failure
returns-clause-failure g c = λ two. elim c.match-parse.branch [
  | in-Ok+in-Some-1 w ↦ absurd (result_not_bad_command_line w.execute_matches.result (sym w.report_result-status.ensures.status ∙ is_bad_command_line _ _ _ w.status-is c.code.ensures two))
  | in-Ok+in-None-1 w ↦ absurd (result_not_bad_command_line w.execute_matches.result (sym w.report_result-status.ensures.status ∙ is_bad_command_line _ _ _ w.status-is c.code.ensures two))
  | in-Err+in-Some-1 w ↦ w.in-Err.ensures.failure (w.explain-status.ensures.bad_command_line (is_bad_command_line _ _ _ w.status-is c.code.ensures two))
  | in-Err+in-None-1 w ↦ w.in-Err.ensures.failure (w.explain-status.ensures.bad_command_line (is_bad_command_line _ _ _ w.status-is c.code.ensures two))
]

pub returns-clause-always_invalid : goal.returns-clause-always_invalid
returns-clause-always_invalid g c = λ are. elim c.match-parse.branch [
  | in-Ok+in-Some-1 w ↦ absurd (w.in-Ok.ensures.not_invalid are)
  | in-Ok+in-None-1 w ↦ absurd (w.in-Ok.ensures.not_invalid are)
  | in-Err+in-Some-1 w ↦ elim (w.in-Err.ensures.always_invalid are) [
    | inl memory ↦ let ends = w.explain-status.ensures.memory memory in
        inr (c.code.ensures ∙ ap code_of (w.status-is ∙ ends.0), memory_by _ g.E.Sink.mark g.E.Sink.writing _ _ _ w.errors-is g.W.Sink.writing _ _ _ w.output-is ends.1)
    | inr usage ↦ elim (w.explain-status.ensures.usage_error usage) [
      | inl arguments ↦ inl (c.code.ensures ∙ ap code_of (w.status-is ∙ arguments))
      | inr ends ↦ inr (c.code.ensures ∙ ap code_of (w.status-is ∙ ends.0), memory_by _ g.E.Sink.mark g.E.Sink.writing _ _ _ w.errors-is g.W.Sink.writing _ _ _ w.output-is ends.1)
    ]
  ]
  | in-Err+in-None-1 w ↦ elim (w.in-Err.ensures.always_invalid are) [
    | inl memory ↦ let ends = w.explain-status.ensures.memory memory in
        inr (c.code.ensures ∙ ap code_of (w.status-is ∙ ends.0), memory_by _ g.E.Sink.mark g.E.Sink.writing _ _ _ w.errors-is g.W.Sink.writing _ _ _ w.output-is ends.1)
    | inr usage ↦ elim (w.explain-status.ensures.usage_error usage) [
      | inl arguments ↦ inl (c.code.ensures ∙ ap code_of (w.status-is ∙ arguments))
      | inr ends ↦ inr (c.code.ensures ∙ ap code_of (w.status-is ∙ ends.0), memory_by _ g.E.Sink.mark g.E.Sink.writing _ _ _ w.errors-is g.W.Sink.writing _ _ _ w.output-is ends.1)
    ]
  ]
]

pub returns-clause-no_output : goal.returns-clause-no_output
returns-clause-no_output g c = λ two. elim c.match-parse.branch [
  | in-Ok+in-Some-1 w ↦ absurd (result_not_bad_command_line w.execute_matches.result (sym w.report_result-status.ensures.status ∙ is_bad_command_line _ _ _ w.status-is c.code.ensures two))
  | in-Ok+in-None-1 w ↦ absurd (result_not_bad_command_line w.execute_matches.result (sym w.report_result-status.ensures.status ∙ is_bad_command_line _ _ _ w.status-is c.code.ensures two))
  | in-Err+in-Some-1 w ↦ accepts_none_by g.W.Sink.writing _ _ _ w.output-is (w.explain-status.ensures.no_output (is_bad_command_line _ _ _ w.status-is c.code.ensures two))
  | in-Err+in-None-1 w ↦ accepts_none_by g.W.Sink.writing _ _ _ w.output-is (w.explain-status.ensures.no_output (is_bad_command_line _ _ _ w.status-is c.code.ensures two))
]

pub returns-clause-explained : goal.returns-clause-explained
returns-clause-explained g c = λ two. elim c.match-parse.branch [
  | in-Ok+in-Some-1 w ↦ absurd (result_not_bad_command_line w.execute_matches.result (sym w.report_result-status.ensures.status ∙ is_bad_command_line _ _ _ w.status-is c.code.ensures two))
  | in-Ok+in-None-1 w ↦ absurd (result_not_bad_command_line w.execute_matches.result (sym w.report_result-status.ensures.status ∙ is_bad_command_line _ _ _ w.status-is c.code.ensures two))
  | in-Err+in-Some-1 w ↦ explained_by _ g.E.Sink.mark g.E.Sink.writing _ _ _ w.errors-is _ (w.explain-status.ensures.explained (is_bad_command_line _ _ _ w.status-is c.code.ensures two))
  | in-Err+in-None-1 w ↦ explained_by _ g.E.Sink.mark g.E.Sink.writing _ _ _ w.errors-is _ (w.explain-status.ensures.explained (is_bad_command_line _ _ _ w.status-is c.code.ensures two))
]

pub returns-clause-done : goal.returns-clause-done
returns-clause-done g c = λ zero. elim c.match-parse.branch [
  | in-Ok+in-Some-1 w ↦ inr (done_by g.R.Source.reading g.W.Sink.writing _ _ _ _ _ _ _ _ w.in-Ok.ensures.read w.input-is w.output-is _ g.E.Sink.mark g.E.Sink.writing _ _ _ w.errors-is w.execute_matches.result w.execute_matches.ensures.ends w.report_result-status.ensures.noted (sym w.report_result-status.ensures.status ∙ is_success _ _ _ w.status-is c.code.ensures zero))
  | in-Ok+in-None-1 w ↦ inr (done_by g.R.Source.reading g.W.Sink.writing _ _ _ _ _ _ _ _ w.in-Ok.ensures.read w.input-is w.output-is _ g.E.Sink.mark g.E.Sink.writing _ _ _ w.errors-is w.execute_matches.result w.execute_matches.ensures.ends w.report_result-status.ensures.noted (sym w.report_result-status.ensures.status ∙ is_success _ _ _ w.status-is c.code.ensures zero))
  | in-Err+in-Some-1 w ↦ let done = is_success _ _ _ w.status-is c.code.ensures zero in
      inl (
        w.in-Err.ensures.help (w.explain-status.ensures.help done),
        accepts_some_by g.W.Sink.writing _ _ _ w.output-is (w.explain-status.ensures.written done),
        accepts_none_by g.E.Sink.writing _ _ _ w.errors-is (w.explain-status.ensures.silent done),
      )
  | in-Err+in-None-1 w ↦ let done = is_success _ _ _ w.status-is c.code.ensures zero in
      inl (
        w.in-Err.ensures.help (w.explain-status.ensures.help done),
        accepts_some_by g.W.Sink.writing _ _ _ w.output-is (w.explain-status.ensures.written done),
        accepts_none_by g.E.Sink.writing _ _ _ w.errors-is (w.explain-status.ensures.silent done),
      )
]

pub returns-clause-reported : goal.returns-clause-reported
returns-clause-reported g c = λ status. elim c.match-parse.branch [
  | in-Ok+in-Some-1 w ↦ reported_result _ g.E.Sink.mark g.E.Sink.writing _ _ _ w.errors-is w.execute_matches.result c.code.result _ w.report_result-status.ensures.reported (c.code.ensures ∙ ap code_of (w.status-is ∙ w.report_result-status.ensures.status)) (fails_by g.R.Source.reading g.W.Sink.writing _ _ _ _ _ _ _ _ w.in-Ok.ensures.read w.input-is w.output-is g.R.Source.mark g.W.Sink.mark w.execute_matches.result w.execute_matches.ensures.ends w.execute_matches.ensures.devices) status
  | in-Ok+in-None-1 w ↦ reported_result _ g.E.Sink.mark g.E.Sink.writing _ _ _ w.errors-is w.execute_matches.result c.code.result _ w.report_result-status.ensures.reported (c.code.ensures ∙ ap code_of (w.status-is ∙ w.report_result-status.ensures.status)) (fails_by g.R.Source.reading g.W.Sink.writing _ _ _ _ _ _ _ _ w.in-Ok.ensures.read w.input-is w.output-is g.R.Source.mark g.W.Sink.mark w.execute_matches.result w.execute_matches.ensures.ends w.execute_matches.ensures.devices) status
  | in-Err+in-Some-1 w ↦ reported_status _ g.E.Sink.mark g.E.Sink.writing g.W.Sink.mark g.W.Sink.writing _ _ _ _ _ _ _ _ _ _ _ w.explain-status.result c.code.result w.explain-status.ensures.reported w.in-Err.ensures.help w.errors-is w.output-is (c.code.ensures ∙ ap code_of w.status-is) status
  | in-Err+in-None-1 w ↦ reported_status _ g.E.Sink.mark g.E.Sink.writing g.W.Sink.mark g.W.Sink.writing _ _ _ _ _ _ _ _ _ _ _ w.explain-status.result c.code.result w.explain-status.ensures.reported w.in-Err.ensures.help w.errors-is w.output-is (c.code.ensures ∙ ap code_of w.status-is) status
]
