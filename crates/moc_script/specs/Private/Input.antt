-- The lines of a lane.
use Rattle.std.specs.Prelude.{◌≡◌, ℕ, zero, suc, ◌+◌, List, [], ◌∷◌, ◌++◌, length}
use Rattle.moc_text.specs.Lines.{lines_of}
use Rattle.moc_script.specs.Crews.{in_lane, dealt, nonblank_lines}
use Rattle.moc_script.specs.declared.crews.lines.LaneLines.{LaneLines}

-- the lines of one of the lanes: those that are dealt to it of the lines that are not blank
abbrev pub lane_lines : ℕ → List ℕ → ℕ → List (List ℕ)
lane_lines lanes input lane = in_lane lane (dealt lanes (nonblank_lines (lines_of input)))

-- the first element after `turn` others, and then each that follows `others` others
abbrev pub in_turn : {A : Type 0} → ℕ → ℕ → List A → List A
in_turn others turn [] = []
in_turn others zero (x ∷ xs) = x ∷ in_turn others others xs
in_turn others (suc turn) (x ∷ xs) = in_turn others turn xs

-- the remaining lines of a lane
abbrev pub remaining_lines : LaneLines → List (List ℕ)
remaining_lines l = in_turn l.others l.turn (nonblank_lines (lines_of l.bytes.now))

-- this number of lines of a text was passed, and this is left of it
pub record HasPassed (text : List ℕ) (count : ℕ) (left : List ℕ) : Type 0 where
  pub passed : List (List ℕ)
  pub lines : lines_of text ≡ passed ++ lines_of left
  pub count_is : length passed ≡ count

-- the line with this number follows those that were passed and some more, and is now the last that was passed
pub record Passes (old : LaneLines) (number : ℕ) (line : List ℕ) (new : LaneLines) : Type 0 where
  pub more : List (List ℕ)
  pub lines : lines_of old.bytes.now ≡ more ++ line ∷ lines_of new.bytes.now
  pub number_is : number ≡ old.passed + length more + 1
  pub passed : new.passed ≡ number
