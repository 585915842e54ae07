-- A crew has as many answers as lines.
use Rattle.std.proofs.Common.{◌≡◌, inl, inr, ℕ, suc, ◌%◌, ◌≤◌, ◌==◌, Bool, true, false, if◌then◌else◌, List, [], ◌∷◌}
use Rattle.std.proofs.Common.{length, refl, sym, ap, ◌∙◌, arith}
use Rattle.std.specs.FinSet as set
use Rattle.std.proofs.lemmas.Bool.{cases_lt}
use Rattle.moc_lines.specs.Runs.{Rules, script_rules}
use Rattle.moc_script.specs.Crews.{InLane, in_lane, dealt, answers_in, CrewsAnswerEachLine}
use Rattle.moc_script.proofs.LaneLists.{next_left}

module _ {S : Type 0} (rules : Rules S) where
  -- lines that are applied in some order have as many answers in each lane
  as_many_in : (lane : ℕ) (s : S) (order : List (InLane (List ℕ))) → length (in_lane lane (answers_in rules s order)) ≡ length (in_lane lane order)
  as_many_in lane s [] = refl
  as_many_in lane s (x ∷ xs) = by (x.lane == lane) (as_many_in lane (rules.after s x.it) xs)
    where
      tail : List (InLane (List ℕ))
      tail = answers_in rules (rules.after s x.it) xs

      by : (b : Bool) → length (in_lane lane tail) ≡ length (in_lane lane xs)
          → length (if b then rules.answer s x.it ∷ in_lane lane tail else in_lane lane tail) ≡ length (if b then x.it ∷ in_lane lane xs else in_lane lane xs)
      by true rest = ap suc rest
      by false rest = rest

-- a list with as many elements in each lane is not shorter
no_shorter : {A B : Type 0} (lanes : ℕ) (xs : List A) (ys : List B) → ((lane : ℕ) → length (in_lane lane (dealt lanes xs)) ≡ length (in_lane lane (dealt lanes ys))) → length ys ≤ length xs
no_shorter lanes xs ys same = elim (cases_lt (length xs) (length ys)) [
  | inl low ↦ absurd (let more = next_left lanes (length xs % lanes) xs ys low refl in let here = same (length xs % lanes) in omega (arith, more, here))
  | inr high ↦ high
]

pub all_answered : CrewsAnswerEachLine
all_answered lanes lines text some crew_text =
    let same : (lane : ℕ) → length (in_lane lane (dealt lanes crew_text.answers)) ≡ length (in_lane lane (dealt lanes lines)) =
    λ lane. sym (ap length (crew_text.answered lane)) ∙ as_many_in script_rules lane set.empty crew_text.order ∙ ap length (crew_text.merged lane) in
    let a = no_shorter lanes crew_text.answers lines same in
    let b = no_shorter lanes lines crew_text.answers (λ lane. sym (same lane)) in
    omega (arith, a, b)
