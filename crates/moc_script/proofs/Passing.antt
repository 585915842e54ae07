-- The lines of a lane by their numbers, and those at which an allocation fails.
use Rattle.std.proofs.Common.{◌≡◌, ◌∙◌, inl, inr, ℕ, suc, ◌+◌, ◌-◌, ◌<◌, ◌≤◌, ◌⊎◌, Bool, true, false, cond, not}
use Rattle.std.proofs.Common.{if◌then◌else◌, List, [], ◌∷◌, ◌++◌, length, take, get_or, Contains, Option, None, Some}
use Rattle.std.proofs.Common.{Result, Ok, Err, sym, ap, subst, arith, append_assoc, length-append}
use Rattle.std.specs.List.{onto_first}
use Rattle.std.proofs.lemmas.List.{get_or-append_right, take_more}
use Rattle.std.proofs.lemmas.List.Elements.{Contains-append_left, Contains-push, Contains-push_cases}
use Rattle.moc_text.specs.Lines.{is_line_feed, lines_of}
use Rattle.moc_lines.specs.Language.{is_blank_text}
use Rattle.moc_script.specs.Crews.{IsNonblankLine, nonblank_lines}
use Rattle.moc_script.specs.Private.Input.{HasPassed, Passes, in_turn}
use Rattle.moc_script.specs.Private.Gathering.{IsFirstFailure}
use Rattle.moc_script.specs.Private.LaneEnds.{Precedes}
use Rattle.moc_script.specs.declared.crews.lines.LaneLines.{LaneLines}
use Rattle.moc_script.specs.declared.crews.lane.LaneOutput.{LaneOutput}
use Rattle.moc_script.specs.declared.crews.lane.LaneFailure.{LaneFailure}
use Rattle.moc_script.specs.declared.crews.lane.LaneFailure.TheVariants.{OutOfMemory, Stopped}

line_count_after_prepend : (b : ℕ) (lines : List (List ℕ)) → length (onto_first b lines) ≤ suc (length lines)
line_count_after_prepend b [] = omega arith
line_count_after_prepend b (line ∷ lines) = omega arith

-- a text does not have more lines than bytes
pub line_count_bounded : (text : List ℕ) → length (lines_of text) ≤ length text
line_count_bounded [] = omega arith
line_count_bounded (b ∷ text) =
    let few = line_count_bounded text in
    let onto : length (onto_first b (lines_of text)) ≤ suc (length text) = by (lines_of text) few in
    elim (is_line_feed b) as (λ v. length (cond v ([] ∷ lines_of text) (onto_first b (lines_of text))) ≤ suc (length text)) [
      | true ↦ omega (arith, few)
      | false ↦ onto
    ]
  where
    by : (lines : List (List ℕ)) → length lines ≤ length text → length (onto_first b lines) ≤ suc (length text)
    by lines few = omega (arith, few, line_count_after_prepend b lines)

-- no line is passed yet
pub nothing_passed_at_start : (text bytes : List ℕ) (count : ℕ) → bytes ≡ text → count ≡ 0 → HasPassed text count bytes
nothing_passed_at_start text bytes count all none = record { passed = []; lines = ap lines_of (sym all); count_is = sym none }

module _ (text : List ℕ) (old new : LaneLines) (number : ℕ) (line : List ℕ) (was : HasPassed text old.passed old.bytes.now) (next : Passes old number line new) where
  all_lines : lines_of text ≡ (was.passed ++ next.more) ++ line ∷ lines_of new.bytes.now
  all_lines = was.lines ∙ ap (λ l. was.passed ++ l) next.lines ∙ sym (append_assoc was.passed next.more (line ∷ lines_of new.bytes.now))

  place : length (was.passed ++ next.more) ≡ number - 1
  place = omega (arith, length-append was.passed next.more, was.count_is, next.number_is)

  -- one more line is passed
  pub passed_more : HasPassed text new.passed new.bytes.now
  passed_more = record {
    passed = (was.passed ++ next.more) ++ line ∷ [];
    lines = all_lines ∙ sym (append_assoc (was.passed ++ next.more) (line ∷ []) (lines_of new.bytes.now));
    count_is = omega (arith, place, next.passed, next.number_is, length-append (was.passed ++ next.more) (line ∷ []));
  }

  -- a line that is not blank has its number
  pub nonblank_line : is_blank_text line ≡ false → IsNonblankLine number (lines_of text)
  nonblank_line nonblank =
      let front = was.passed ++ next.more in
      let following : (number - 1) - (number - 1) ≡ 0 = omega arith in
      let here : get_or (lines_of text) (number - 1) [] ≡ line =
      ap (λ l. get_or l (number - 1) []) all_lines ∙ get_or-append_right front (line ∷ lines_of new.bytes.now) (number - 1) (number - 1) [] place (omega arith)
      ∙ ap (λ n. get_or (line ∷ lines_of new.bytes.now) n []) following in
      record {
        some = omega (arith, next.number_is);
        within = omega (arith, place, next.number_is, ap length all_lines, length-append front (line ∷ lines_of new.bytes.now));
        nonblank = ap is_blank_text here ∙ nonblank;
      }

abbrev Ends : Type 0
Ends = List (Result LaneOutput LaneFailure)

err_of : (x y : LaneFailure) → (let end : Result LaneOutput LaneFailure = Err x in end ≡ Err y) → x ≡ y
err_of x y same = cc

ok_is_not_err : (end : LaneOutput) (e : LaneFailure) → (let it : Result LaneOutput LaneFailure = Ok end in it ≡ Err e) → ⊥
ok_is_not_err end e same = cc

-- precedence is transitive
precedes_transitive : (a b c : LaneFailure) → Precedes a b → Precedes b c → Precedes a c
precedes_transitive (OutOfMemory a) (OutOfMemory b) (OutOfMemory c) first second = omega (arith, first, second)
precedes_transitive (OutOfMemory a) (OutOfMemory b) (Stopped c) first second = tt
precedes_transitive (OutOfMemory a) (Stopped b) (OutOfMemory c) first second = absurd second
precedes_transitive (OutOfMemory a) (Stopped b) (Stopped c) first second = tt
precedes_transitive (Stopped a) (OutOfMemory b) c first second = absurd first
precedes_transitive (Stopped a) (Stopped b) (OutOfMemory c) first second = absurd second
precedes_transitive (Stopped a) (Stopped b) (Stopped c) first second = omega (arith, first, second)

precedes_itself : (a : LaneFailure) → Precedes a a
precedes_itself (OutOfMemory a) = omega arith
precedes_itself (Stopped a) = omega arith

-- a success does not change the first failure
first_failure_after_ok : (ends : Ends) (first : Option LaneFailure) (end : LaneOutput) → IsFirstFailure ends first → IsFirstFailure (ends ++ Ok end ∷ []) first
first_failure_after_ok ends None end was = λ e here. elim (Contains-push_cases ends (Ok end) (Err e) here) [
  | inl before ↦ was e before
  | inr same ↦ ok_is_not_err end e same
]
first_failure_after_ok ends (Some first) end was = (
  Contains-append_left ends (Ok end ∷ []) (Err first) was.0,
  λ e here. elim (Contains-push_cases ends (Ok end) (Err e) here) [
    | inl before ↦ was.1 e before
    | inr same ↦ absurd (ok_is_not_err end e same)
  ],
)

-- the first failure, if there was none before
first_alone : (ends : Ends) (next : LaneFailure) → IsFirstFailure ends None → IsFirstFailure (ends ++ Err next ∷ []) (Some next)
first_alone ends next none = (
  Contains-push ends (Err next),
  λ e here. elim (Contains-push_cases ends (Err next) (Err e) here) [
    | inl before ↦ absurd (none e before)
    | inr same ↦ subst (Precedes next) (err_of next e same) (precedes_itself next)
  ],
)

-- otherwise the failure of both that takes precedence
first_of_both : (ends : Ends) (first next new : LaneFailure) → IsFirstFailure ends (Some first) → (new ≡ first) ⊎ (new ≡ next) → Precedes new first → Precedes new next
    → IsFirstFailure (ends ++ Err next ∷ []) (Some new)
first_of_both ends first next new was either before_first before_next = (
  elim either [
    | inl same ↦ subst (λ (e : LaneFailure). Contains (ends ++ Err next ∷ []) (Err e)) (sym same) (Contains-append_left ends (Err next ∷ []) (Err first) was.0)
    | inr same ↦ subst (λ (e : LaneFailure). Contains (ends ++ Err next ∷ []) (Err e)) (sym same) (Contains-push ends (Err next))
  ],
  λ e here. elim (Contains-push_cases ends (Err next) (Err e) here) [
    | inl before ↦ precedes_transitive new first e before_first (was.1 e before)
    | inr same ↦ subst (Precedes new) (err_of next e same) before_next
  ],
)

module _ (ends : Ends) (i : ℕ) (x : Result LaneOutput LaneFailure) (low : i < length ends) (here : get_or ends i x ≡ x) (old new : Option LaneFailure) (was : IsFirstFailure (take i ends) old) where
  one_more : (y : Result LaneOutput LaneFailure) (first : Option LaneFailure) → x ≡ y → new ≡ first → IsFirstFailure (take i ends ++ y ∷ []) first → IsFirstFailure (take (i + 1) ends) new
  one_more y first is same more =
      subst (λ (l : Ends). IsFirstFailure l new) (sym (take_more ends i x low ∙ ap (λ (z : Result LaneOutput LaneFailure). take i ends ++ z ∷ []) (here ∙ is)))
      (subst (IsFirstFailure (take i ends ++ y ∷ [])) (sym same) more)

  -- the result of a lane that has answered its lines
  pub end_done : (end : LaneOutput) → x ≡ Ok end → new ≡ old → IsFirstFailure (take (i + 1) ends) new
  end_done end is same = one_more (Ok end) old is same (first_failure_after_ok (take i ends) old end was)

  -- the first failure
  pub end_alone : (next : LaneFailure) → x ≡ Err next → old ≡ None → new ≡ Some next → IsFirstFailure (take (i + 1) ends) new
  end_alone next is none same =
      one_more (Err next) (Some next) is same (first_alone (take i ends) next (subst (IsFirstFailure (take i ends)) none was))

  -- one of several failures
  pub end_of_both : (first next one : LaneFailure) → x ≡ Err next → old ≡ Some first → new ≡ Some one → (one ≡ first) ⊎ (one ≡ next) → Precedes one first × Precedes one next
      → IsFirstFailure (take (i + 1) ends) new
  end_of_both first next one is some same either before =
      one_more (Err next) (Some one) is same (first_of_both (take i ends) first next one (subst (IsFirstFailure (take i ends)) some was) either before.0 before.1)

module _ (others : ℕ) (text line rest : List ℕ) (parts : lines_of text ≡ line ∷ lines_of rest) where
  -- a blank line does not belong to a lane
  pub blank_passed : (turn : ℕ) → is_blank_text line ≡ true → in_turn others turn (nonblank_lines (lines_of rest)) ≡ in_turn others turn (nonblank_lines (lines_of text))
  blank_passed turn blank =
      sym (ap (λ (l : List (List ℕ)). in_turn others turn (nonblank_lines l)) parts
      ∙ ap (λ (b : Bool). in_turn others turn (if not b then line ∷ nonblank_lines (lines_of rest) else nonblank_lines (lines_of rest))) blank)

  -- a line of another lane is passed
  pub turn_passed : (turn less : ℕ) → turn ≡ suc less → is_blank_text line ≡ false → in_turn others less (nonblank_lines (lines_of rest)) ≡ in_turn others turn (nonblank_lines (lines_of text))
  turn_passed turn less is nonblank =
      sym (ap (λ (l : List (List ℕ)). in_turn others turn (nonblank_lines l)) parts
      ∙ ap (λ (b : Bool). in_turn others turn (if not b then line ∷ nonblank_lines (lines_of rest) else nonblank_lines (lines_of rest))) nonblank
      ∙ ap (λ (n : ℕ). in_turn others n (line ∷ nonblank_lines (lines_of rest))) is)

  -- one more line is counted
  pub counted_more : (whole : List ℕ) (start count : ℕ) → (more : List (List ℕ)) × (lines_of whole ≡ more ++ lines_of text) × (count ≡ start + length more)
      → (more : List (List ℕ)) × (lines_of whole ≡ more ++ lines_of rest) × (count + 1 ≡ start + length more)
  counted_more whole start count was = (
    was.0 ++ line ∷ [],
    was.1 ∙ ap (λ l. was.0 ++ l) parts ∙ sym (append_assoc was.0 (line ∷ []) (lines_of rest)),
    omega (arith, was.2, length-append was.0 (line ∷ [])),
  )
