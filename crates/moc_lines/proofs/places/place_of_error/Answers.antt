use Rattle.std.proofs.Common.{◌∙◌, ◌+◌, ap, sym, refl, arith}
use Rattle.moc_lines.proofs.Placing.{after_last_piece, after_piece, at_first_piece, from_first}
use Rattle.moc_lines.proofs.places.place_of_error.Goals as goal

pub returns-then-branch : goal.returns-then-branch
returns-then-branch c =
    ap (λ n. record { command = c.loop-place.place.command; byte = c.loop-place.place.byte + n }) c.offset_in_piece.ensures.offset
    ∙ at_first_piece _ _ _ _ _ _ c.first_semicolon.ensures.at c.split_at.ensures.front (sym c.in_ok-is_error_of_piece.ensures ∙ c.if-branch.true) ∙ sym c.loop-place.invariant.same

pub returns-in_default : goal.returns-in_default
returns-in_default c =
    after_last_piece _ _ _ _ _ _ c.first_semicolon.ensures.at (omega (arith, c.split_at.ensures.back_len, c.in_default.len_below)) c.split_at.ensures.front
    (sym c.in_ok-is_error_of_piece.ensures ∙ c.if-branch.false) ∙ sym c.loop-place.invariant.same

pub loop-place-init : goal.loop-place-init
loop-place-init c = record {
  same = from_first c.args.error c.args.line.now;
  bytes = omega arith;
  commands = omega arith;
}

pub loop-place-preserved : goal.loop-place-preserved
loop-place-preserved c = record {
  same = c.loop-place.invariant.same
      ∙ after_piece _ _ _ _ _ _ _ _ c.first_semicolon.ensures.at (omega (arith, c.split_at.ensures.back_len, c.in-len1-up.len_at_least)) c.split_at.ensures.front c.split_at.ensures.back refl
      (sym c.in_ok-is_error_of_piece.ensures ∙ c.if-branch.false);
  bytes = omega (arith, c.loop-place.invariant.bytes, c.split_at.ensures.front_len, c.split_at.ensures.back_len, c.in-len1-up.len_at_least);
  commands = omega (arith, c.loop-place.invariant.commands);
}
