-- The lanes' results are collected, and the map is closed.
use Rattle.std.proofs.Common.{◌≡◌, ◌∙◌, ℕ, ◌<◌, inr, ap, subst, arith, Err, ⊎_elim}
use Rattle.moc_text.specs.Lines.{lines_of}
use Rattle.moc_script.specs.Crews.{nonblank_lines}
use Rattle.moc_script.specs.Private.Gathering.{IsLanesError}
use Rattle.moc_script.specs.Private.Joining.{AreCrewAnswers}
use Rattle.moc_script.proofs.Gathered.{first_named, error_passed_to_step}
use Rattle.moc_script.proofs.crews.answer_all.Goals as goal

pub unreachable-requires : goal.unreachable-requires
unreachable-requires g c =
    ⊎_elim (λ (none : c.get-lanes.result ≡ 0). absurd (omega (arith, none, c.get-lanes.ensures.some))) (λ (many : 64 < c.get-lanes.result). absurd (omega (arith, many, c.get-lanes.ensures.bounded)))
    (c.in-Err-BadCount.ensures.bad_count.0 (ap Err c.in-Err-BadCount.field-0-is))

pub close_map-requires : goal.close_map-requires
close_map-requires g c = record {
  some = c.get-lanes.ensures.some;
  start = c.in-Ok.ensures.begins.0 ∙ c.empty-start.ensures;
  clients = c.in-Ok.ensures.begins.1;
  outputs = c.in_ok-outputs.ensures.done c.in-Ok.map c.get-lanes.result c.args.input.now c.in_ok-ends.ensures.ends;
}

pub returns-in_err-outputs-clause-line : goal.returns-in_err-outputs-clause-line
returns-in_err-outputs-clause-line g c =
    let error = c.in_err-outputs.field-0.0 in
    error_passed_to_step c.from_residual-in_err-outputs.result error (IsLanesError c.args.input.now) c.from_residual-in_err-outputs.ensures.1
    (first_named c.in-Ok.map c.get-lanes.result c.args.input.now c.in_ok-ends.ends.items error c.in_ok-ends.ensures.ends c.in_err-outputs.ensures.first)

pub returns-in-Err-clause-line : goal.returns-in-Err-clause-line
returns-in-Err-clause-line g c = inr (inr c.line_after_last.ensures)

pub returns-in-Ok-close_map-clause-crew_output : goal.returns-in-Ok-close_map-clause-crew_output
returns-in-Ok-close_map-clause-crew_output g c =
    let crew_output = c.in-Ok-close_map.crew_output in
    subst (λ (m : ℕ). AreCrewAnswers m (nonblank_lines (lines_of c.args.input.now)) crew_output.answers.items crew_output.cover.items) c.get-lanes.ensures.number c.in-Ok-close_map.ensures
