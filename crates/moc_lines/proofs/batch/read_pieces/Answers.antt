-- A piece is parsed.
use Rattle.std.proofs.Common.{◌≡◌, ◌∙◌, length, sym, ap, Result, Ok, arith, Vec, Global}
use Rattle.moc_parts.specs.declared.command.Command.{Command}
use Rattle.moc_lines.specs.Language.{command_of, commands_of, ParsesAs}
use Rattle.moc_lines.specs.declared.error.LineError.{LineError}
use Rattle.moc_text.specs.Lines.{pieces_of}
use Rattle.moc_lines.proofs.Batching.{following-error, following-last, following-next, following-nothing, first-within, pushed_if_ok}
use Rattle.moc_lines.proofs.Batching.{pieces-last, pieces-next, some-pieces}
use Rattle.moc_lines.proofs.Outcomes.{error_passed_to_outcome}
use Rattle.moc_lines.proofs.batch.read_pieces.Goals as goal

pub loop-piece-init : goal.loop-piece-init
loop-piece-init c = record {
  parsed = following-nothing c.new-commands.result.items (commands_of command_of (pieces_of c.args.line.now)) c.new-commands.ensures.items;
  pieces = omega arith;
  first = c.requires;
  within = first-within c.args.line.now c.args.first c.requires;
}

pub returns-clause-reads : goal.returns-clause-reads
returns-clause-reads c = λ few. absurd (omega (arith, some-pieces c.loop-piece.rest.now))

pub returns-in_err-command-clause-reads : goal.returns-in_err-command-clause-reads
returns-in_err-command-clause-reads c =
    λ _. error_passed_to_outcome c.from_residual.result c.in_err-command.field-0.0 (λ (r : Result (Vec Command Global) LineError). ParsesAs (λ v. v.items) r (commands_of command_of (pieces_of c.args.line.now))) c.from_residual.ensures.1
    (following-error command_of {V = Vec Command Global} (λ v. v.items) _ _ _ _ _ c.in_err-command.field-0.0 c.loop-piece.invariant.first c.split_at.ensures.front c.loop-piece.invariant.parsed c.in_err-command.ensures)

pub returns-then-at-rest-clause-bounded : goal.returns-then-at-rest-clause-bounded
returns-then-at-rest-clause-bounded c =
    let one : length (pieces_of c.loop-piece.rest.now) ≡ 1 = pieces-last _ _ c.loop-piece.invariant.first c.if-at-rest.true in
    omega arith

pub returns-then-at-rest-clause-reads : goal.returns-then-at-rest-clause-reads
returns-then-at-rest-clause-reads c =
    λ _. c.loop-piece.invariant.parsed ∙ following-last command_of _ c.in_ok-command.command _ _ _ c.loop-piece.invariant.first c.if-at-rest.true c.split_at.ensures.front c.in_ok-command.ensures
    ∙ ap (λ l. Ok l) (sym (pushed_if_ok c.push.result _ _ _ (sym c.is_err.ensures.value ∙ c.if-is_err.false) c.push.ensures.items))

pub loop-piece-preserved : goal.loop-piece-preserved
loop-piece-preserved c =
    let next = pieces-next _ _ _ _ c.loop-piece.invariant.first (omega arith) c.split_at.ensures.back c.split_at-in-loop-piece.ensures.back in
    record {
      parsed = following-next command_of _ _ c.in_ok-command.command _ _ _ _ _ _ c.loop-piece.invariant.first (omega arith) c.split_at.ensures.front c.split_at.ensures.back c.split_at-in-loop-piece.ensures.back
          (pushed_if_ok c.push.result _ _ _ (sym c.is_err.ensures.value ∙ c.if-is_err.false) c.push.ensures.items)
          c.loop-piece.invariant.parsed c.in_ok-command.ensures;
      pieces = omega arith;
      first = c.first_semicolon-at.ensures.at;
      within = c.first_semicolon-at.ensures.within;
    }
