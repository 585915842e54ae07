-- The place of the error in an invalid line.
use Rattle.std.specs.Prelude.{ℕ, ◌+◌, ◌-◌, nat_eq, min, List, [], codes, length, if◌then◌else◌, get_or, take}
use Rattle.std.specs.List.{position_or_len, prefix_len, starts_with, sum_by}
use Rattle.std.specs.Option.{unwrap_or}
use Rattle.std.specs.Result.{is_err}
use Rattle.moc_parts.specs.Batches.{max_commands}
use Rattle.moc_text.specs.Lines.{pieces_of}
use Rattle.moc_text.specs.Places.{error_byte}
use Rattle.moc_lines.specs.declared.error.LineError.{LineError}
use Rattle.moc_lines.specs.declared.error.LineError.TheVariants.{Coverage, TooManyCommands}
use Rattle.moc_lines.specs.declared.places.LinePlace.{LinePlace}
use Rattle.moc_lines.specs.Language.{after_word, command_of, is_line_blank, piece_command, word_of}

-- the number of the invalid command among the pieces of a line, from 0: the 17th command if there are too many, or else
-- the first that is invalid
abbrev pub invalid_command : LineError → List (List ℕ) → ℕ
invalid_command TooManyCommands pieces = min max_commands (length pieces)
invalid_command error pieces = position_or_len (λ piece. is_err (piece_command command_of piece)) pieces

-- the text after the word of a command, and after an order that begins with `@`
abbrev pub coverage_text : List ℕ → List ℕ
coverage_text piece =
    let text = after_word piece in if starts_with nat_eq (word_of text) (codes "@") then after_word text else text

-- the offset of an error in its command: that of the error in a coverage, or of the command's first byte
abbrev pub offset_in_piece : LineError → List ℕ → ℕ
offset_in_piece (Coverage error) piece =
    let text = coverage_text piece in
    length piece - length text + min (unwrap_or (error_byte error) 0) (length text)
offset_in_piece error piece = prefix_len is_line_blank piece

-- the place of the error of a line: the number of its command, and the offset of the error in the line
abbrev pub error_place : LineError → List ℕ → LinePlace
error_place error line =
    let pieces = pieces_of line in
    let number = invalid_command error pieces in
    record {
      command = number;
      byte = sum_by (λ piece. length piece + 1) (take number pieces)
          + offset_in_piece error (get_or pieces number []);
    }
