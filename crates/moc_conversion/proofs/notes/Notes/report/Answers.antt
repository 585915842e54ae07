-- The line of the note on the input, then that of the text without cells.
use Rattle.std.proofs.Common.{◌∙◌, ℕ, List, [], Ok, Err, refl}
use Rattle.std.specs.Option.{option_map_or}
use Rattle.moc_conversion.specs.Notes.{input_note_line, without_cells_line}
use Rattle.moc_conversion.specs.declared.notes.Notes.{Notes}
use Rattle.moc_conversion.proofs.Sending.{writes_all, writes_as, writes_first, writes_no_more, writes_some}
use Rattle.moc_conversion.proofs.notes.Notes.report.Goals as goal

-- the line of the note on the input, if there is one
abbrev input_line_of : Notes → List ℕ
input_line_of notes = option_map_or input_note_line notes.input []

pub returns-in_err-write_all : goal.returns-in_err-write_all
returns-in_err-write_all g c =
    writes_first _ _ (input_line_of c.args.self.now) (option_map_or without_cells_line c.args.self.now.text_without_cells []) _ _ _ _
    (writes_as _ _ _ _ _ _ _ (c.as_bytes.ensures.value ∙ c.input_line.ensures) (writes_all _ _ _ _ _ _ _ (Err _) tt c.in_err-write_all.ensures.sends c.in_err-write_all.ensures.writes))
    refl c.from_residual.ensures.0

pub returns-in-Some : goal.returns-in-Some
returns-in-Some g c =
    writes_some _ _ without_cells_line (input_line_of c.args.self.now) c.args.self.now.text_without_cells _ _ _
    (writes_as _ _ _ _ _ _ _ (c.as_bytes.ensures.value ∙ c.input_line.ensures) (writes_all _ _ _ _ _ _ _ (Ok tt) c.in_ok-write_all.ensures.written c.in_ok-write_all.ensures.sends c.in_ok-write_all.ensures.writes))
    c.in-Some.number _ c.write_without_cells.result c.in-Some.is c.write_without_cells.ensures

pub returns-in-None : goal.returns-in-None
returns-in-None g c =
    writes_no_more _ _ without_cells_line (input_line_of c.args.self.now) c.args.self.now.text_without_cells _ _ _
    (writes_as _ _ _ _ _ _ _ (c.as_bytes.ensures.value ∙ c.input_line.ensures) (writes_all _ _ _ _ _ _ _ (Ok tt) c.in_ok-write_all.ensures.written c.in_ok-write_all.ensures.sends c.in_ok-write_all.ensures.writes))
    c.in-None.is
