-- Notes on valid inputs that may be mistakes, and the text that reports them.
use Rattle.std.specs.Prelude.{◌≡◌, ℕ, ◌+◌, ◌-◌, ◌==◌, if◌then◌else◌, List, [], ◌∷◌, ◌++◌, Option, None, Some, codes}
use Rattle.std.specs.Prelude.{decimal, length, slice_get}
use Rattle.std.specs.Char.{is_ascii_digit}
use Rattle.std.specs.List.{list_any}
use Rattle.std.specs.Option.{option_map_or}
use Rattle.moc_devices.specs.Devices.{SourceState, IsEnded}
use Rattle.moc_forms.specs.Combining.{texts_of}
use Rattle.moc_forms.specs.Finding.{format_for}
use Rattle.moc_forms.specs.declared.finding.FormatChoice.{FormatChoice}
use Rattle.moc_forms.specs.declared.format.Format.{Format}
use Rattle.moc_forms.specs.declared.format.Format.TheVariants.{Json}
use Rattle.moc_text.specs.Lines.{is_line_feed}
use Rattle.moc_conversion.specs.Conversion.{HasRead}
use Rattle.moc_conversion.specs.declared.notes.InputNote.{InputNote}
use Rattle.moc_conversion.specs.declared.notes.InputNote.TheVariants.{Empty, NoLineFeed, OneText}
use Rattle.moc_conversion.specs.declared.notes.Notes.{Notes}

-- no notes
abbrev pub no_notes : Notes
no_notes = record { input = None; text_without_cells = None }

-- the note on a text with this last byte: a text without one is empty, and a line feed ends the last line
abbrev pub last_byte_note : Option ℕ → Option InputNote
last_byte_note None = Some Empty
last_byte_note (Some byte) = if is_line_feed byte then None else Some NoLineFeed

-- the note on the end of a valid text in a format: a valid JSON text is complete
abbrev pub end_note : Format → List ℕ → Option InputNote
end_note Json text = None
end_note format text = last_byte_note (slice_get text (length text - 1))

-- the notes on a text that is checked: that it is empty, or that its last line has no line feed
abbrev pub check_notes : FormatChoice → List ℕ → Notes
check_notes choice text = record { input = end_note (format_for choice text) text; text_without_cells = None }

-- the number of the first text that has no digit, so that it states no order and no cell; texts are counted from a
-- number on
abbrev pub first_without_cells : ℕ → List (List ℕ) → Option ℕ
first_without_cells number [] = None
first_without_cells number (text ∷ texts) =
    if list_any is_ascii_digit text then first_without_cells (number + 1) texts else Some number

-- the notes on the texts of bytes that are combined: that there is only one, and the first that has no cells
abbrev pub combine_notes : List ℕ → Notes
combine_notes bytes = record {
  input = if length (texts_of bytes) == 1 then Some OneText else None;
  text_without_cells = first_without_cells 1 (texts_of bytes);
}

-- the whole input was read, and these are the notes on it
abbrev pub AreNotesOn : (List ℕ → Notes) → SourceState → SourceState → Notes → Type 0
AreNotesOn notes_on source source' notes = HasRead (λ given. IsEnded source' × (notes ≡ notes_on given)) source source'

-- the line of a note on an input
abbrev pub input_note_line : InputNote → List ℕ
input_note_line Empty = codes "note: the input is empty\n"
input_note_line NoLineFeed = codes "note: the last line has no line feed; the text may be incomplete\n"
input_note_line OneText = codes "note: only one text; a semicolon separates texts\n"

-- the line of a text without cells
abbrev pub without_cells_line : ℕ → List ℕ
without_cells_line number = codes "note: text " ++ decimal number ++ codes " has no cells\n"

-- the text that reports notes: a line for each
abbrev pub notes_text : Notes → List ℕ
notes_text notes =
    option_map_or input_note_line notes.input [] ++ option_map_or without_cells_line notes.text_without_cells []
