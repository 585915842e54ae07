-- The text of a crew, from the results of its lanes and the history of the closed map.
use Rattle.std.proofs.Common.{◌≡◌, ◌≢◌, inl, inr, ℕ, zero, suc, ◌<◌, ◌≤◌, ◌==◌, eq-eqb, ne_eqb, Bool, cond, count_by}
use Rattle.std.proofs.Common.{List, [], ◌∷◌, ◌++◌, Contains, refl, sym, ap, ◌∙◌, subst, arith, length, length-append}
use Rattle.std.proofs.Common.{append-nil, get_or, Result, Ok, Err}
use Rattle.std.specs.FinSet as set
use Rattle.std.proofs.lemmas.Bool.{cases_lt}
use Rattle.std.proofs.lemmas.List.Sums.{sum_by-cons}
use Rattle.std.specs.List.{concat}
use Rattle.moc_lists.specs.RangeList.{NumberSet}
use Rattle.moc_lines.specs.Runs.{script_rules, AreShort, FailsOn, IsUnfinishedLine, line_limit}
use Rattle.moc_script.specs.Crews.{in_lane, dealt, cover_line, nonblank_lines, IsCrewText, IsFailedLine, CrewEnds}
use Rattle.moc_shared.specs.History.{calls_of, state_after, IsLegal}
use Rattle.moc_script.specs.Private.LaneWork.{Performs}
use Rattle.moc_shared.specs.Batches.{BatchCall, batch_answer as object}
use Rattle.moc_shared.specs.Clients.{record_of, start_of, clients_of, StandsForAll, Closes}
use Rattle.moc_shared.specs.declared.map.SharedMap.{SharedMap}
use Rattle.moc_shared.specs.declared.record.Calls.{Calls}
use Rattle.moc_devices.specs.Devices.{SourceState, Delivers, IsEnded, SinkState, Accepts, AcceptsNone}
use Rattle.moc_lines.specs.declared.run_error.RunError.{RunError}
use Rattle.moc_lines.specs.declared.run_error.RunError.TheVariants.{Read, Write, LineTooLong, Memory, Spawn}
use Rattle.moc_devices.specs.Lemmas.{Accepts-kept, AcceptsNone-refl, Sends-all}
use Rattle.moc_shared.specs.declared.client.Client.{Client}
use Rattle.moc_text.specs.Lines.{lines_of}
use Rattle.moc_script.specs.Private.Input.{lane_lines}
use Rattle.moc_script.specs.Private.Gathering.{HasLanes, IsLanesError}
use Rattle.moc_script.specs.Private.Joining.{AreForLines, IsMerged, AreCrewAnswers, EndsMerging, EndsWriting, MergesTo}
use Rattle.moc_script.proofs.LaneLists.{none_above, as_long}
use Rattle.moc_script.proofs.Weaving.{weave}

-- a history has no calls of clients that do not exist
calls_of-none : (n lane : ℕ) (log : List BatchCall) → ((e : BatchCall) → Contains log e → e.client < n) → n ≤ lane → calls_of lane log ≡ []
calls_of-none n lane [] named high = refl
calls_of-none n lane (e ∷ log) named high =
    let low = named e (0, omega arith, refl) in
    let other : e.client ≢ lane = λ is. absurd (omega arith) in
    ap (λ (b : Bool). cond b (e ∷ calls_of lane log) (calls_of lane log)) (ne_eqb e.client lane other)
    ∙ calls_of-none n lane log (λ f i. named f (suc i.0, (let l = i.1 in omega arith), i.2)) high

-- the lanes' lines, with the calls of each in the closed history, are answered in one order
pub crew_text : (n : ℕ) (nonblank answers : List (List ℕ)) (log : List BatchCall) (end : NumberSet) → 0 < n → IsLegal object set.empty log
    → ((e : BatchCall) → Contains log e → e.client < n) → end ≡ state_after object set.empty log
    → ((lane : ℕ) → lane < n → Performs object script_rules (in_lane lane (dealt n nonblank)) (calls_of lane log) (in_lane lane (dealt n answers)))
    → IsCrewText n nonblank (concat answers ++ cover_line end)
crew_text n nonblank answers log end some legal named end_is does =
    let all : (lane : ℕ) → Performs object script_rules (in_lane lane (dealt n nonblank)) (calls_of lane log) (in_lane lane (dealt n answers)) =
    λ lane. elim (cases_lt lane n) [ inl low ↦ does lane low | inr high ↦ rw (none_above n lane nonblank some high, calls_of-none n lane log named high, none_above n lane answers some high) (refl, refl) ] in
    let w = weave object script_rules n log set.empty legal named (λ lane. in_lane lane (dealt n nonblank)) (λ lane. in_lane lane (dealt n answers)) all (λ lane high. none_above n lane nonblank some high) in
    record {
      order = w.order;
      answers = answers;
      merged = w.merged;
      answered = w.answered;
      text_is = ap (λ s. concat answers ++ cover_line s) (end_is ∙ sym w.left);
    }

Performs-length : (lines : List (List ℕ)) (calls : List BatchCall) (texts : List (List ℕ)) → Performs object script_rules lines calls texts → length texts ≡ length lines
Performs-length [] calls texts (none, empty) = ap length empty
Performs-length (line ∷ lines) calls texts (t, rest, is, inl (quiet, does)) = ap length is ∙ ap suc (Performs-length lines calls rest does)
Performs-length (line ∷ lines) calls texts (t, rest, is, inr (e, later, calls_are, requests, does)) = ap length is ∙ ap suc (Performs-length lines later rest does)

none_left : {X : Type 0} (xs ys : List X) → length (xs ++ ys) ≡ length xs → ys ≡ []
none_left xs [] same = refl
none_left xs (y ∷ ys) same = absurd (omega (arith, same, length-append xs (y ∷ ys)))

abbrev Texts : Type 0
Texts = List (List ℕ)

module _ {O R : Type 0} where
  -- a client stands for those whose calls are recorded
  represents : (all : List (Calls O R)) (k : Calls O R) → Contains all k → 0 < count_by (λ q. q.client == k.client) all
  represents [] k here = absurd (let low = here.1 in omega arith)
  represents (q ∷ all) k (zero, low, is) =
      let f : Calls O R → ℕ = λ x. cond (x.client == k.client) 1 0 in
      let parts = sum_by-cons f q all in
      let found : f q ≡ 1 = ap (λ (b : Bool). cond b 1 0) (eq-eqb q.client k.client (ap (λ x. x.client) is)) in
      omega arith
  represents (q ∷ all) k (suc i, low, is) =
      let f : Calls O R → ℕ = λ x. cond (x.client == k.client) 1 0 in
      let parts = sum_by-cons f q all in
      let rest = represents all k (i, omega arith, is) in
      omega arith

-- the client stands for all
pub represents_all : (map : SharedMap) (n : ℕ) (input : List ℕ) (answers : List Texts) (c : Client) → clients_of map ≡ n → HasLanes n n input answers c → StandsForAll map (record_of c)
represents_all map n input answers c many has lane low =
    let h = has lane (subst (λ (m : ℕ). lane < m) many low) in represents (record_of c).own (record { client = lane; made = h.0 }) h.1

-- a lane has as many answers as lines
pub as_answers : (n : ℕ) (input : List ℕ) (answers : List Texts) (c : Client) → HasLanes n n input answers c → AreForLines n answers (length (nonblank_lines (lines_of input)))
as_answers n input answers c lanes = (
  nonblank_lines (lines_of input),
  refl,
  λ lane low. let has = lanes lane low in Performs-length (lane_lines n input lane) has.0 (get_or answers lane []) has.2,
)

-- the text, from the results of the lanes
pub crew_of_lanes : (map : SharedMap) (n : ℕ) (input : List ℕ) (answers left : List Texts) (c : Client) (end : NumberSet) (text : List ℕ) → 0 < n
    → HasLanes n n input answers c → IsMerged n answers left (length (nonblank_lines (lines_of input))) text → start_of map ≡ set.empty → clients_of map ≡ n
    → Closes map (record_of c) end
    → IsCrewText n (nonblank_lines (lines_of input)) (text ++ cover_line end)
crew_of_lanes map n input answers left c end text some lanes all start many closes =
    subst (λ (t : List ℕ). IsCrewText n nonblank (t ++ cover_line end)) (sym all.text_is)
    (crew_text n nonblank all.done closes.0 end some (subst (λ (s : NumberSet). IsLegal object s closes.0) start closes.1.0) (λ e i. subst (λ (m : ℕ). e.client < m) many (closes.1.1 e i))
    (closes.3 ∙ ap (λ (s : NumberSet). state_after object s closes.0) start) does)
  where
    nonblank : List (List ℕ)
    nonblank = nonblank_lines (lines_of input)

    as_many : length nonblank ≡ length all.done
    as_many = sym all.count_is

    does : (lane : ℕ) → lane < n → Performs object script_rules (in_lane lane (dealt n nonblank)) (calls_of lane closes.0) (in_lane lane (dealt n all.done))
    does lane low =
        let has = lanes lane low in
        let calls : calls_of lane closes.0 ≡ has.0 = closes.2.1 (record { client = lane; made = has.0 }) has.1 in
        let parts = all.parts lane low in
        let long_texts = Performs-length (lane_lines n input lane) has.0 (get_or answers lane []) has.2 in
        let none : get_or left lane [] ≡ [] =
        none_left (in_lane lane (dealt n all.done)) (get_or left lane []) (sym (ap length parts) ∙ long_texts ∙ as_long n lane nonblank all.done as_many) in
        let whole : get_or answers lane [] ≡ in_lane lane (dealt n all.done) = parts ∙ ap (λ l. in_lane lane (dealt n all.done) ++ l) none ∙ append-nil (in_lane lane (dealt n all.done)) in
        subst (λ (l : List BatchCall). Performs object script_rules (lane_lines n input lane) l (in_lane lane (dealt n all.done))) (sym calls)
        (subst (λ (l : List (List ℕ)). Performs object script_rules (lane_lines n input lane) has.0 l) whole has.2)

-- an allocation failed while lines were read
pub crew_failed_reading : (lanes line : ℕ) (a b : SourceState) (w0 w1 : SinkState) → (given : List ℕ) × Delivers a b given × IsUnfinishedLine line given → AcceptsNone w0 w1
    → CrewEnds lanes a b w0 w1 (Err (Memory line))
crew_failed_reading lanes line a b w0 w1 begins_match kept = (kept, (begins_match.0, begins_match.1, inl begins_match.2))

-- an allocation failed after all lines were read
pub crew_out_of_memory : (lanes line : ℕ) (items : List ℕ) (a b : SourceState) (w0 w1 : SinkState) → Delivers a b items → IsEnded b → IsFailedLine line (lines_of items) → AcceptsNone w0 w1
    → CrewEnds lanes a b w0 w1 (Err (Memory line))
crew_out_of_memory lanes line items a b w0 w1 consumed end refused kept = (kept, (items, consumed, inr (end, refused)))

module _ (lanes : ℕ) (items cover : List ℕ) (answers : List Texts) (crew_answers : AreCrewAnswers lanes (nonblank_lines (lines_of items)) answers cover) (b : SourceState) (w0 w1 w2 : SinkState) (end : IsEnded b) where
  for : AreForLines (length answers) answers (length (nonblank_lines (lines_of items)))
  for = subst (λ (n : ℕ). AreForLines n answers (length (nonblank_lines (lines_of items)))) (sym crew_answers.wide) crew_answers.for_lines

  -- the writer failed on the way
  pub crew_failed : {E : Type 0} (a : SourceState) (r : Result (Unit {0}) E) → Delivers a b items → MergesTo {E = E} answers cover w0 w1 r
      → CrewEnds lanes a b w0 w1 (Err Write)
  crew_failed a r consumed joins =
      let h = joins (length (nonblank_lines (lines_of items))) for in
      (items, consumed, end, (h.2.sent, h.2.appended, (h.2.rest, subst (IsCrewText lanes (nonblank_lines (lines_of items))) h.2.parts (crew_answers.text h.0 h.1))))

  all_written : {E : Type 0} → MergesTo {E = E} answers cover w0 w1 (Ok tt) → AcceptsNone w1 w2
      → (text : List ℕ) × Accepts w0 w2 text × IsCrewText lanes (nonblank_lines (lines_of items)) text
  all_written joins kept =
      let h = joins (length (nonblank_lines (lines_of items))) for in
      (h.0 ++ cover, Accepts-kept w0 w1 w2 (h.0 ++ cover) (Sends-all (h.0 ++ cover) [] w0 w1 h.2 refl) kept, crew_answers.text h.0 h.1)

  -- the writer failed at its flush
  pub crew_unflushed : {E : Type 0} (a : SourceState) → Delivers a b items → MergesTo {E = E} answers cover w0 w1 (Ok tt) → AcceptsNone w1 w2
      → CrewEnds lanes a b w0 w2 (Err Write)
  crew_unflushed a consumed joins kept =
      let h = all_written joins kept in
      (items, consumed, end, (h.0, h.1, ([], subst (IsCrewText lanes (nonblank_lines (lines_of items))) (sym (append-nil h.0)) h.2)))

  -- all is written and flushed
  pub crew_done : {E : Type 0} (a : SourceState) → Delivers a b items → AreShort line_limit (lines_of items) → MergesTo {E = E} answers cover w0 w1 (Ok tt) → AcceptsNone w1 w2
      → CrewEnds lanes a b w0 w2 (Ok tt)
  crew_done a consumed within joins kept = (items, consumed, end, within, all_written joins kept)

-- the crew ends with the error of its writer, or of an allocation after the last line
pub crew_not_written : (items cover : List ℕ) (answers : List Texts) (w0 w1 : SinkState) (e : RunError) → EndsMerging items answers cover w0 w1 (Err e) → EndsWriting items answers cover w0 w1 (Err e)
crew_not_written items cover answers w0 w1 Write merges = λ lanes a b answered reads. crew_failed lanes items cover answers answered b w0 w1 w1 reads.1 a (Err Write) reads.0 merges
crew_not_written items cover answers w0 w1 (Memory line) merges = λ lanes a b answered reads. crew_out_of_memory lanes line items a b w0 w1 reads.0 reads.1 (inr (inr merges.1)) merges.0
crew_not_written items cover answers w0 w1 Read merges = absurd merges
crew_not_written items cover answers w0 w1 (LineTooLong line) merges = absurd merges
crew_not_written items cover answers w0 w1 Spawn merges = absurd merges

-- the lanes failed, and nothing is written
pub crew_unanswered : (lanes : ℕ) (items : List ℕ) (a b : SourceState) (w : SinkState) (e : RunError) → Delivers a b items → IsEnded b → IsLanesError items e → CrewEnds lanes a b w w (Err e)
crew_unanswered lanes items a b w (Memory line) consumed end named = crew_out_of_memory lanes line items a b w w consumed end named (AcceptsNone-refl w)
crew_unanswered lanes items a b w Spawn consumed end named = AcceptsNone-refl w
crew_unanswered lanes items a b w Read consumed end named = absurd named
crew_unanswered lanes items a b w Write consumed end named = absurd named
crew_unanswered lanes items a b w (LineTooLong line) consumed end named = absurd named

-- the input was not read, and nothing is written
pub crew_unread : (lanes : ℕ) (a b : SourceState) (w : SinkState) (given : List ℕ) (e : RunError) → Delivers a b given → FailsOn given e → CrewEnds lanes a b w w (Err e)
crew_unread lanes a b w given Read consumed fails = AcceptsNone-refl w
crew_unread lanes a b w given (LineTooLong line) consumed fails = (AcceptsNone-refl w, (given, consumed, fails))
crew_unread lanes a b w given (Memory line) consumed fails = crew_failed_reading lanes line a b w w (given, consumed, fails) (AcceptsNone-refl w)
crew_unread lanes a b w given Write consumed fails = absurd fails
crew_unread lanes a b w given Spawn consumed fails = absurd fails
