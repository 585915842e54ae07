-- The commands of the line are the commands so far, and then those of the rest.
use Rattle.std.proofs.Common.{◌≡◌, ◌+◌, ◌≤◌, length}
use Rattle.std.specs.List.{position_or_len}
use Rattle.moc_lines.specs.Language.{command_of, commands_of}
use Rattle.moc_text.specs.Lines.{is_semicolon, pieces_of}
use Rattle.moc_lines.proofs.Batching.{following}
use Rattle.moc_lines.proofs.batch.read_pieces.Given as goal

abbrev pub invariant-loop-piece : goal.invariant-loop-piece
invariant-loop-piece l = record {
  parsed : commands_of command_of (pieces_of l.line) ≡ following l.commands.items (commands_of command_of (pieces_of l.rest));
  pieces : l._piece + length (pieces_of l.rest) ≡ length (pieces_of l.line);
  first : l.at ≡ position_or_len is_semicolon l.rest;
  within : l.at ≤ length l.rest;
}
