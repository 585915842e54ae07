-- The answers of the lanes in the order of the lines.
use Rattle.std.specs.Prelude.{◌≡◌, ◌<◌, ◌+◌, ◌++◌, ℕ, List, [], length, slice_index_or, Result, Ok, Err, OnOk}
use Rattle.moc_devices.specs.Devices.{SourceState, SinkState, Accepts, AcceptsNone, Sends}
use Rattle.std.specs.List.{concat}
use Rattle.moc_script.specs.Crews.{in_lane, dealt, CrewEnds, IsCrewText, nonblank_lines}
use Rattle.moc_text.specs.Lines.{lines_of}
use Rattle.moc_lines.specs.Runs.{ReadsAll}
use Rattle.moc_lines.specs.declared.run_error.RunError.{RunError}
use Rattle.moc_lines.specs.declared.run_error.RunError.TheVariants.{Write, Memory}

-- each lane has as many answers as it has lines, of `count` lines
abbrev pub AreForLines : ℕ → List (List (List ℕ)) → ℕ → Type 0
AreForLines lanes answers count =
    (lines : List (List ℕ)) × (length lines ≡ count)
    × ((lane : ℕ) → lane < lanes → length (slice_index_or answers lane []) ≡ length (in_lane lane (dealt lanes lines)))

-- the text is `count` answers of the lanes in turn, and these are left
pub record IsMerged (lanes : ℕ) (all left : List (List (List ℕ))) (count : ℕ) (text : List ℕ) : Type 0 where
  pub done : List (List ℕ)
  pub text_is : text ≡ concat done
  pub count_is : length done ≡ count
  pub wide : length left ≡ lanes
  pub parts : (lane : ℕ) → lane < lanes
      → slice_index_or all lane [] ≡ in_lane lane (dealt lanes done) ++ slice_index_or left lane []

-- the answers to all lines, in turn
pub record AreMerged (all : List (List (List ℕ))) (count : ℕ) (text : List ℕ) : Type 0 where
  pub left : List (List (List ℕ))
  pub merge : IsMerged (length all) all left count text

-- the answers in turn are written except for what is pending, or a prefix of them if the writer failed
pub record SendsTurns {E : Type 0} (all : List (List (List ℕ))) (sink : SinkState) (pending : List ℕ)
    (sink' : SinkState) (result : Result (Unit {0}) E) : Type 0 where
  pub sent : List ℕ
  pub appended : Accepts sink sink' sent
  pub whole : (count : ℕ) → AreForLines (length all) all count
      → (rest : List ℕ) × AreMerged all count (sent ++ rest) × OnOk result (rest ≡ pending)

-- the answers in turn and the text after them are written, or a prefix of both if the writer failed
abbrev pub MergesTo : {E : Type 0} → List (List (List ℕ)) → List ℕ → SinkState → SinkState
    → Result (Unit {0}) E → Type 0
MergesTo all following sink sink' result =
    (count : ℕ) → AreForLines (length all) all count
    → (text : List ℕ) × AreMerged all count text × Sends (text ++ following) sink [] sink' result

-- The answers in turn and the text after them are written, or a prefix of both if the writer failed. If an allocation
-- failed, nothing is written, and the line is the one after the last of the input.
abbrev pub EndsMerging : List ℕ → List (List (List ℕ)) → List ℕ → SinkState → SinkState
    → Result (Unit {0}) RunError → Type 0
EndsMerging input all following sink sink' (Ok u) = MergesTo {E = RunError} all following sink sink' (Ok u)
EndsMerging input all following sink sink' (Err Write) = MergesTo {E = RunError} all following sink sink' (Err Write)
EndsMerging input all following sink sink' (Err (Memory line)) =
    AcceptsNone sink sink' × (line ≡ length (lines_of input) + 1)
EndsMerging input all following sink sink' (Err _) = ⊥

-- these answers of the lanes, in turn and with the text after them, are a text that may be written for the lines
pub record AreCrewAnswers (lanes : ℕ) (nonblank : List (List ℕ)) (answers : List (List (List ℕ)))
    (following : List ℕ) : Type 0 where
  pub wide : length answers ≡ lanes
  pub for_lines : AreForLines lanes answers (length nonblank)
  pub text : (front : List ℕ) → AreMerged answers (length nonblank) front
      → IsCrewText lanes nonblank (front ++ following)

-- The answers of the lanes to an input that was read whole are written, as far as the result states, as a crew ends.
abbrev pub EndsWriting : List ℕ → List (List (List ℕ)) → List ℕ → SinkState → SinkState
    → Result (Unit {0}) RunError → Type 0
EndsWriting input answers cover sink sink' result =
    (lanes : ℕ) (source source' : SourceState)
    → AreCrewAnswers lanes (nonblank_lines (lines_of input)) answers cover → ReadsAll source source' input
    → CrewEnds lanes source source' sink sink' result
