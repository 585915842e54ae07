-- The place of an error among the pieces of the rest of a line.
use Rattle.std.specs.Prelude.{ℕ, suc, ◌+◌, Bool, nat_eq, List, [], ◌∷◌, length, if◌then◌else◌}
use Rattle.std.specs.Result.{is_err}
use Rattle.moc_parts.specs.Batches.{max_commands}
use Rattle.moc_lines.specs.declared.error.LineError.{LineError}
use Rattle.moc_lines.specs.declared.error.LineError.TheVariants.{TooManyCommands}
use Rattle.moc_lines.specs.declared.places.LinePlace.{LinePlace}
use Rattle.moc_lines.specs.Language.{command_of, piece_command}
use Rattle.moc_lines.specs.Places.{offset_in_piece}

-- whether an error of a line is that of the piece with a number: too many commands is that of the 17th, any other error
-- that of each invalid piece
abbrev pub is_error_of_piece : LineError → ℕ → List ℕ → Bool
is_error_of_piece TooManyCommands number piece = nat_eq number max_commands
is_error_of_piece error number piece = is_err (piece_command command_of piece)

-- the place of an error among the last pieces of a line; the number and the offset are those of the first of these
-- pieces
abbrev pub place_among : LineError → ℕ → ℕ → List (List ℕ) → LinePlace
place_among error number offset [] = record { command = number; byte = offset }
place_among error number offset (piece ∷ pieces) =
    if is_error_of_piece error number piece
    then record { command = number; byte = offset + offset_in_piece error piece }
    else place_among error (suc number) (offset + length piece + 1) pieces
