-- A line without a semicolon is one piece.
use Rattle.std.proofs.Common.{◌≡◌, ◌≤◌, false, List, ℕ, [], ◌∷◌, length, Option, Some, None, Ok, sym, ◌∙◌}
use Rattle.std.specs.Prelude.{IfSome}
use Rattle.std.specs.List.{position_or_len}
use Rattle.moc_text.specs.Lines.{is_semicolon}
use Rattle.moc_parts.specs.CellCommands.{command_on_cell}
use Rattle.moc_parts.specs.declared.part_command.CellCommand.{CellCommand}
use Rattle.moc_lines.specs.Language.{batch_of, command_of, is_blank_text}
use Rattle.moc_lines.proofs.Batching.{reads-alone}
use Rattle.moc_lines.proofs.batch.only_cell_command.Goals as goal

alone : (line : List ℕ) (r : Option CellCommand) → length line ≤ position_or_len is_semicolon line → is_blank_text line ≡ false
    → IfSome r (λ c. command_of line ≡ Ok (command_on_cell c)) → IfSome r (λ c. batch_of command_of line ≡ Ok (command_on_cell c ∷ []))
alone line None none some is = tt
alone line (Some c) none some is = reads-alone command_of line (Ok (command_on_cell c)) none (rw some is)

pub returns : goal.returns
returns c = alone c.args.line.now c.cell_command.result c.requires (sym c.is_blank_text.ensures ∙ c.if-is_blank_text.false) c.cell_command.ensures
