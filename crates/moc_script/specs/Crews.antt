-- The texts that a crew of lanes may write, and what it has written when it ends.
use Rattle.std.specs.Prelude.{◌≡◌, ◌==◌, ◌%◌, ℕ, List, [], ◌∷◌, if◌then◌else◌, ◌⊎◌, ◌<◌, ◌≤◌, ◌+◌, ◌-◌, false}
use Rattle.std.specs.Prelude.{◌++◌, length, slice_index_or, Result, Ok, Err, not, filter, fold, map}
use Rattle.std.specs.FinSet as set
use Rattle.moc_devices.specs.Devices.{SourceState, Delivers, IsEnded, SinkState, Accepts, AcceptsNone}
use Rattle.std.specs.List.{concat, enumerate_from}
use Rattle.moc_lists.specs.RangeList.{NumberSet}
use Rattle.moc_text.specs.Lines.{lines_of}
use Rattle.moc_lines.specs.Language.{is_blank_text, cover_text}
use Rattle.moc_lines.specs.Runs.{Rules, AreShort, IsTooLong, IsUnfinishedLine, line_limit, script_rules}
use Rattle.moc_lines.specs.declared.run_error.RunError.{RunError}
use Rattle.moc_lines.specs.declared.run_error.RunError.TheVariants.{Read, Write, LineTooLong, Memory, Spawn}
use Rattle.moc_script.specs.declared.crews.lanes.Lanes.{Lanes}

-- Lists that are dealt to lanes, and merges of lanes

-- an element, and the lane that has it
pub record InLane (A : Type 0) : Type 0 where
  pub lane : ℕ
  pub it : A

module _ {A : Type 0} where
  -- an element in a lane
  abbrev pub put_in_lane : ℕ → A → InLane A
  put_in_lane lane x = record { lane = lane; it = x }

  -- the elements of a lane, in order
  abbrev pub in_lane : ℕ → List (InLane A) → List A
  in_lane lane [] = []
  in_lane lane (x ∷ xs) = if x.lane == lane then x.it ∷ in_lane lane xs else in_lane lane xs

  -- elements dealt to lanes: the j-th, counted from 0, to the lane j mod lanes
  abbrev pub dealt : ℕ → List A → List (InLane A)
  dealt lanes xs = map (λ (numbered : ℕ × A). put_in_lane (numbered.0 % lanes) numbered.1) (enumerate_from 0 xs)

  -- both have the same elements in each lane, in the same order: each is a merge of the other's lanes
  abbrev pub IsMerge : List (InLane A) → List (InLane A) → Type 0
  IsMerge xs ys = (lane : ℕ) → in_lane lane xs ≡ in_lane lane ys

-- The text of a crew

-- the number of lanes
abbrev pub lane_count : Lanes → ℕ
lane_count lanes = lanes.number

-- the lines that are not blank
abbrev pub nonblank_lines : List (List ℕ) → List (List ℕ)
nonblank_lines lines = filter (λ line. not (is_blank_text line)) lines

module _ {S : Type 0} (rules : Rules S) where
  -- the answers to lines that are applied in this order, each in the state after those before it
  abbrev pub answers_in : S → List (InLane (List ℕ)) → List (InLane (List ℕ))
  answers_in s [] = []
  answers_in s (x ∷ xs) = put_in_lane x.lane (rules.answer s x.it) ∷ answers_in (rules.after s x.it) xs

  -- the state after lines that are applied in this order
  abbrev pub state_in_order : S → List (InLane (List ℕ)) → S
  state_in_order s xs = fold (λ t x. rules.after t x.it) s xs

-- the line that ends a crew's text: the cover of the set
abbrev pub cover_line : NumberSet → List ℕ
cover_line a = cover_text a ++ 10 ∷ []

-- A text that this number of lanes may write for these lines. In one order of all lines, which keeps the order of
-- each lane, each is applied to the set after those before it; the set is empty at first. The text is their answers, in
-- the order of the lines, and the cover of the set after them.
pub record IsCrewText (lanes : ℕ) (lines : List (List ℕ)) (text : List ℕ) : Type 0 where
  pub order : List (InLane (List ℕ))
  pub answers : List (List ℕ)
  pub merged : IsMerge order (dealt lanes lines)
  pub answered : IsMerge (answers_in script_rules set.empty order) (dealt lanes answers)
  pub text_is : text ≡ concat answers ++ cover_line (state_in_order script_rules set.empty order)

-- the line with this number, counted from 1, is not blank
pub record IsNonblankLine (number : ℕ) (lines : List (List ℕ)) : Type 0 where
  pub some : 0 < number
  pub within : number ≤ length lines
  pub nonblank : is_blank_text (slice_index_or lines (number - 1) []) ≡ false

-- The line that an allocation failure names if a crew has read its whole input: a line that is not blank, 0 for the map
-- and the threads, or the line after the last for what follows the lanes' ends.
abbrev pub IsFailedLine : ℕ → List (List ℕ) → Type 0
IsFailedLine number lines = (number ≡ 0) ⊎ IsNonblankLine number lines ⊎ (number ≡ length lines + 1)

-- What a crew with this result did with the bytes that its source delivered. At Ok the source ended, and the sink
-- accepted a crew's text of all of them. If the writer failed, the sink accepted a prefix of such a text; at any other
-- error it accepted nothing. The line of an error is too long, or memory ran out while it was read or after all was
-- read.
abbrev pub CrewEnds : ℕ → SourceState → SourceState → SinkState → SinkState → Result (Unit {0}) RunError → Type 0
CrewEnds lanes reading reading' writing writing' (Ok _) =
    (given : List ℕ) × Delivers reading reading' given × IsEnded reading' × AreShort line_limit (lines_of given)
    × ((text : List ℕ) × Accepts writing writing' text × IsCrewText lanes (nonblank_lines (lines_of given)) text)
CrewEnds lanes reading reading' writing writing' (Err Write) =
    (given : List ℕ) × Delivers reading reading' given × IsEnded reading'
    × ((text : List ℕ) × Accepts writing writing' text
    × ((rest : List ℕ) × IsCrewText lanes (nonblank_lines (lines_of given)) (text ++ rest)))
CrewEnds lanes reading reading' writing writing' (Err (LineTooLong line)) =
    AcceptsNone writing writing'
    × ((given : List ℕ) × Delivers reading reading' given × IsTooLong line_limit (lines_of given) line)
CrewEnds lanes reading reading' writing writing' (Err Read) = AcceptsNone writing writing'
CrewEnds lanes reading reading' writing writing' (Err (Memory line)) =
    AcceptsNone writing writing'
    × ((given : List ℕ) × Delivers reading reading' given
    × (IsUnfinishedLine line given ⊎ (IsEnded reading' × IsFailedLine line (lines_of given))))
CrewEnds lanes reading reading' writing writing' (Err Spawn) = AcceptsNone writing writing'

-- each line that is not blank has an answer, in whatever order the lines were applied
abbrev pub CrewsAnswerEachLine : Type 0
CrewsAnswerEachLine =
    (lanes : ℕ) (lines : List (List ℕ)) (text : List ℕ) → 0 < lanes → (crew_text : IsCrewText lanes lines text)
    → length crew_text.answers ≡ length lines
