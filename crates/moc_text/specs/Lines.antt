-- The lines of a text, and its parts between semicolons.
use Rattle.std.specs.Prelude.{ℕ, Bool, ◌==◌, List, [], ◌∷◌, if◌then◌else◌}
use Rattle.std.specs.List.{onto_first, slice_split}

-- a line feed ends a line
abbrev pub is_line_feed : ℕ → Bool
is_line_feed b = b == 10

-- the lines of a text: each ends with a line feed, and bytes after the last line feed are a last line
abbrev pub lines_of : List ℕ → List (List ℕ)
lines_of [] = []
lines_of (b ∷ bytes) = if is_line_feed b then [] ∷ lines_of bytes else onto_first b (lines_of bytes)

-- `;`
abbrev pub is_semicolon : ℕ → Bool
is_semicolon b = b == 59

-- the parts of a text between semicolons
abbrev pub pieces_of : List ℕ → List (List ℕ)
pieces_of text = slice_split is_semicolon text
