-- Collection of the results of the lanes.
use Rattle.std.proofs.Common.{◌≡◌, inl, inr, ℕ, ◌+◌, ◌<◌, List, [], ◌∷◌, ◌++◌, length, map, get_or, Contains, Option, Some, None, Result, Ok, Err, refl, sym, ap, subst, arith, below_more}
use Rattle.std.specs.Prelude.{IfErr, IsErrAnd}
use Rattle.std.proofs.lemmas.List.Elements.{Contains-append_left, Contains-append_right}
use Rattle.std.proofs.lemmas.List.{get_or_push, get_or_append_left}
use Rattle.moc_script.specs.declared.crews.lane.LaneOutput.{LaneOutput}
use Rattle.moc_shared.specs.declared.client.Client.{Client}
use Rattle.moc_shared.specs.declared.map.SharedMap.{SharedMap}
use Rattle.moc_shared.specs.Batches.{BatchRecord}
use Rattle.moc_shared.specs.Clients.{record_of, IsClientOf, TakesIn}
use Rattle.moc_script.specs.Private.Input.{lane_lines}
use Rattle.moc_script.specs.Private.LaneEnds.{IsLaneEnd, AreLaneEnds}
use Rattle.moc_script.specs.declared.crews.lane.LaneFailure.{LaneFailure}
use Rattle.moc_lines.specs.declared.run_error.RunError.{RunError}
use Rattle.moc_lines.specs.declared.run_error.RunError.TheVariants.{Read, Write, LineTooLong, Memory, Spawn}
use Rattle.moc_text.specs.Lines.{lines_of}
use Rattle.moc_script.specs.Crews.{IsNonblankLine}
use Rattle.moc_script.specs.Private.Gathering.{CallsMade, HasBoth, HasLane, IsGathered, NamesFirst, IsLanesError}

pub has_both : (map : SharedMap) (a b r : BatchRecord) → TakesIn map a b r → (q : CallsMade) → (Contains a.own q → Contains r.own q) × (Contains b.own q → Contains r.own q)
has_both map a b r taken q =
    let own : r.own ≡ a.own ++ b.own = ap (λ x. x.own) taken.1 in (
      (λ h. subst (λ (l : List CallsMade). Contains l q) (sym own) (Contains-append_left a.own b.own q h)),
      (λ h. subst (λ (l : List CallsMade). Contains l q) (sym own) (Contains-append_right a.own b.own q h)),
    )

-- the lane of the client itself
pub lane_of_end : (map : SharedMap) (lanes : ℕ) (input : List ℕ) (lane : ℕ) (end : LaneOutput) → IsLaneEnd map lanes input lane (Ok end)
    → HasLane (record_of end.client) lane (lane_lines lanes input lane) end.answers
lane_of_end map lanes input lane end is =
    let m = is.2 in (m.0, subst (λ (l : List CallsMade). Contains l (record { client = lane; made = m.0 })) (sym m.1) (0, omega arith, refl), m.2)

-- the line that an error of the lanes names is not blank, or is the line after the last
pub first_named : (map : SharedMap) (lanes : ℕ) (input : List ℕ) (ends : List (Result LaneOutput LaneFailure)) (e : RunError) → AreLaneEnds map lanes input ends
    → NamesFirst input ends e → IsLanesError input e
first_named map lanes input ends (Memory line) are (inl named) =
    let first = named.0 in
    let here = named.1.0 in
    let low : here.0 < lanes = omega (arith, are.0, here.1) in
    let ended : IsLaneEnd map lanes input here.0 (Err first) = subst (IsLaneEnd map lanes input here.0) here.2 (are.1 here.0 (Err first) low) in
    inr (inl (subst (λ (n : ℕ). IsNonblankLine n (lines_of input)) (sym named.2) ended))
first_named map lanes input ends (Memory line) are (inr named) = inr (inr named.1)
first_named map lanes input ends Read are named = absurd named
first_named map lanes input ends Write are named = absurd named
first_named map lanes input ends (LineTooLong line) are named = absurd named
first_named map lanes input ends Spawn are named = absurd named

-- an error that is passed on
pub error_passed_to_step : {T : Type 0} (r : Result T RunError) (e : RunError) (Q : RunError → Type 0) → IsErrAnd r (λ f. f ≡ e) → Q e → IfErr r Q
error_passed_to_step (Ok x) e Q same named = tt
error_passed_to_step (Err f) e Q same named = subst Q (sym same) named

-- an error that is passed on as the result
pub result_passed_on : {T : Type 0} (r : Result T RunError) (e : RunError) (Q : Result T RunError → Type 0) → IsErrAnd r (λ f. f ≡ e) → Q (Err e) → Q r
result_passed_on (Ok x) e Q same named = absurd same
result_passed_on (Err f) e Q same named = subst (λ (x : RunError). Q (Err x)) (sym same) named

abbrev Texts : Type 0
Texts = List (List ℕ)

-- one more lane
pub gather_more : (map : SharedMap) (lanes : ℕ) (input : List ℕ) (answers : List Texts) (k : ℕ) (all : Option Client) (next both : Client) (texts : Texts)
    → length answers ≡ k → IsGathered map k lanes input answers all → IsClientOf map both → HasBoth all next both
    → HasLane (record_of next) k (lane_lines lanes input k) texts
    → IsGathered map (k + 1) lanes input (answers ++ texts ∷ []) (Some both)
gather_more map lanes input answers k all next both texts long was of_map has here = (
  of_map,
  λ lane low. below_more (λ (m : ℕ). HasLane (record_of both) m (lane_lines lanes input m) (get_or (answers ++ texts ∷ []) m [])) k
      (λ m less. subst (λ (q : Texts). HasLane (record_of both) m (lane_lines lanes input m) q) (sym (get_or_append_left answers (texts ∷ []) [] m (rw long less))) (old all was has m less))
      (subst (λ (q : Texts). HasLane (record_of both) k (lane_lines lanes input k) q) (sym (get_or_push answers texts [] k long)) (new all has)) lane low,
)
  where
    old : (o : Option Client) → IsGathered map k lanes input answers o → HasBoth o next both → (m : ℕ) → m < k → HasLane (record_of both) m (lane_lines lanes input m) (get_or answers m [])
    old None none h m less = absurd (omega arith)
    old (Some c) gathered h m less = let l = gathered.1 m less in (l.0, (h (record { client = m; made = l.0 })).0 l.1, l.2)

    new : (o : Option Client) → HasBoth o next both → HasLane (record_of both) k (lane_lines lanes input k) texts
    new None h = subst (λ (c : Client). HasLane (record_of c) k (lane_lines lanes input k) texts) (sym h) here
    new (Some c) h = let l = here in (l.0, (h (record { client = k; made = l.0 })).1 l.1, l.2)
