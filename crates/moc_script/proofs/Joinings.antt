-- The answers of the lanes, merged in turn.
use Rattle.std.proofs.Common.{◌≡◌, ◌⊎◌, inl, inr, ℕ, zero, suc, ◌+◌, ◌-◌, ◌%◌, ◌<◌, ◌≤◌, List, [], ◌∷◌, ◌++◌, length}
use Rattle.std.proofs.Common.{set, get_or, Result, Ok, Err, refl, sym, ap, ◌∙◌, subst, arith, append_assoc}
use Rattle.std.proofs.Common.{append-nil, length-append, length-set}
use native.Mathlib.Decide.{ℕ_discrete}
use Rattle.std.proofs.Math.Nat.{mod-lt, mod-eq_of_lt}
use Rattle.std.proofs.lemmas.Bool.{cases_lt}
use Rattle.std.proofs.lemmas.List.{get_or-set_same, get_or-set_other, get_or_default}
use Rattle.moc_devices.specs.Devices.{SinkState, Accepts}
use Rattle.std.specs.Result.{IsErr}
use Rattle.std.specs.Prelude.{IsErrAnd}
use Rattle.moc_script.specs.Crews.{in_lane, dealt}
use Rattle.std.specs.List.{concat}
use Rattle.moc_devices.specs.Lemmas.{Accepts-nil, Accepts-trans}
use Rattle.moc_devices.specs.Devices.{Sends}
use Rattle.moc_script.specs.Private.Joining.{AreForLines, IsMerged, SendsTurns, MergesTo}
use Rattle.moc_script.proofs.LaneLists.{dealt-alone, dealt-here, dealt-else, next_left, next_rest}
use Rattle.moc_script.proofs.Sending.{Sends-front, Sends-error, Sends-ok, on_err}

abbrev Texts : Type 0
Texts = List (List ℕ)

merging-push : (texts : List (List ℕ)) (text : List ℕ) → concat (texts ++ text ∷ []) ≡ concat texts ++ text
merging-push [] text = append-nil text
merging-push (t ∷ texts) text = ap (λ l. t ++ l) (merging-push texts text) ∙ sym (append_assoc t (concat texts) text)

-- one more answer
pub merge_next_answer : (lanes lane count : ℕ) (all left : List Texts) (new : Texts) (text answer : List ℕ) → IsMerged lanes all left count text → lane < lanes
    → count % lanes ≡ lane → get_or left lane [] ≡ answer ∷ new → IsMerged lanes all (set left lane new) (count + 1) (text ++ answer)
merge_next_answer lanes lane count all left new text answer was low turn here = record {
  done = was.done ++ answer ∷ [];
  text_is = ap (λ l. l ++ answer) was.text_is ∙ sym (merging-push was.done answer);
  count_is = length-append was.done (answer ∷ []) ∙ ap (λ n. n + 1) was.count_is;
  wide = length-set left lane new ∙ was.wide;
  parts = λ m inside. cases m inside (ℕ_discrete m lane);
}
  where
    at : length was.done % lanes ≡ lane
    at = ap (λ n. n % lanes) was.count_is ∙ turn

    cases : (m : ℕ) → m < lanes → Dec (m ≡ lane) → get_or all m [] ≡ in_lane m (dealt lanes (was.done ++ answer ∷ [])) ++ get_or (set left lane new) m []
    cases m inside (yes is) =
        subst (λ (n : ℕ). get_or all n [] ≡ in_lane n (dealt lanes (was.done ++ answer ∷ [])) ++ get_or (set left lane new) n []) (sym is)
        (was.parts lane low ∙ ap (λ l. in_lane lane (dealt lanes was.done) ++ l) here
        ∙ sym (append_assoc (in_lane lane (dealt lanes was.done)) (answer ∷ []) new)
        ∙ ap (λ l. l ++ new) (sym (dealt-here lanes lane was.done answer at))
        ∙ ap (λ (q : Texts). in_lane lane (dealt lanes (was.done ++ answer ∷ [])) ++ q) (sym (get_or-set_same left lane new [] (rw was.wide low))))
    cases m inside (no other) =
        was.parts m inside ∙ ap (λ l. l ++ get_or left m []) (sym (dealt-else lanes m was.done answer (λ q. other (q ∙ at))))
        ∙ ap (λ (q : Texts). in_lane m (dealt lanes (was.done ++ answer ∷ [])) ++ q) (sym (get_or-set_other left lane m new [] other))

module _ (lanes count turn : ℕ) (all left : List Texts) (text : List ℕ) (some : 0 < lanes) (for : AreForLines lanes all count) (was : IsMerged lanes all left turn text) where
  long : (lane : ℕ) → lane < lanes → length (get_or all lane []) ≡ length (in_lane lane (dealt lanes was.done)) + length (get_or left lane [])
  long lane low = ap length (was.parts lane low) ∙ length-append (in_lane lane (dealt lanes was.done)) (get_or left lane [])

  -- there are not more merged answers than lines
  pub not_more : turn ≤ count
  not_more = elim (cases_lt count turn) [
    | inl more ↦ let lane : ℕ = count % lanes in let low : lane < lanes = mod-lt count some in
        let less = next_left lanes lane for.0 was.done (omega (arith, for.1, was.count_is)) (ap (λ n. n % lanes) for.1) in absurd (omega (arith, less, long lane low, for.2 lane low))
    | inr few ↦ few
  ]

  -- while answers remain, the next lane has one
  pub some_left : turn < count → get_or left (turn % lanes) [] ≡ [] → ⊥
  some_left less none =
      let lane : ℕ = turn % lanes in
      let low : lane < lanes = mod-lt turn some in
      let more = next_left lanes lane was.done for.0 (omega (arith, was.count_is, for.1)) (ap (λ n. n % lanes) was.count_is) in
      omega (arith, long lane low, ap length none, for.2 lane low, more)

  -- if the next lane has none left, all are merged
  pub all_merged : get_or left (turn % lanes) [] ≡ [] → turn ≡ count
  all_merged none = elim (cases_lt turn count) [ inl less ↦ absurd (some_left less none) | inr past ↦ let few = not_more in omega (arith, few) ]

-- the answers that remain
pub rest_of : (k lanes count turn : ℕ) (all left : List Texts) (text : List ℕ) → 0 < lanes → AreForLines lanes all count → IsMerged lanes all left turn text → turn + k ≡ count
    → (rest : List ℕ) × (left' : List Texts) × IsMerged lanes all left' count (text ++ rest)
rest_of zero lanes count turn all left text some for was sum =
    let same : turn ≡ count = omega arith in
    ([], left, subst (λ (n : ℕ). IsMerged lanes all left n (text ++ [])) same (subst (λ (t : List ℕ). IsMerged lanes all left turn t) (sym (append-nil text)) was))
rest_of (suc k) lanes count turn all left text some for was sum =
    by (get_or left (turn % lanes) []) refl (λ answer new is.
    let more = merge_next_answer lanes (turn % lanes) turn all left new text answer was (mod-lt turn some) refl is in
    let rest = rest_of k lanes count (turn + 1) all (set left (turn % lanes) new) (text ++ answer) some for more (omega arith) in
    (answer ++ rest.0, rest.1, subst (λ (t : List ℕ). IsMerged lanes all rest.1 count t) (append_assoc text answer rest.0) rest.2))
  where
    Rest : Type 0
    Rest = (rest : List ℕ) × (left' : List Texts) × IsMerged lanes all left' count (text ++ rest)

    by : (here : Texts) → get_or left (turn % lanes) [] ≡ here → ((answer : List ℕ) (new : Texts) → get_or left (turn % lanes) [] ≡ answer ∷ new → Rest) → Rest
    by [] none next = absurd (some_left lanes count turn all left text some for was (omega arith) none)
    by (answer ∷ new) is next = next answer new is

-- what is merged so far is written except for what is pending
pub record Turns (all walks : List Texts) (turn : ℕ) (written written' : SinkState) (pending : List ℕ) : Type 0 where
  pub count : ℕ
  pub text : List ℕ
  pub sent : List ℕ
  pub merge : IsMerged (length all) all walks count text
  pub at : count % length all ≡ turn
  pub appended : Accepts written written' sent
  pub parts : text ≡ sent ++ pending

-- nothing is merged yet
pub Turns-start : (all : List Texts) (written : SinkState) → 0 < length all → Turns all all 0 written written []
Turns-start all written some = record {
  count = 0;
  text = [];
  sent = [];
  merge = record { done = []; text_is = refl; count_is = refl; wide = refl; parts = λ lane low. refl };
  at = mod-eq_of_lt some;
  appended = Accepts-nil written;
  parts = refl;
}

module _ (all walks : List Texts) (turn : ℕ) (w0 w w' : SinkState) (pending : List ℕ) (t : Turns all walks turn w0 w pending) where
  -- one more answer is sent
  pub Turns-more : {E : Type 0} (turn' : ℕ) (pending' answer : List ℕ) (new : Texts) → turn < length all → get_or walks turn [] ≡ answer ∷ new
      → Sends {E = E} (pending ++ answer) w pending' w' (Ok tt) → ((turn + 1 < length all) × (turn' ≡ turn + 1)) ⊎ ((turn + 1 ≡ length all) × (turn' ≡ 0))
      → Turns all (set walks turn new) turn' w0 w' pending'
  Turns-more turn' pending' answer new low here s next = record {
    count = t.count + 1;
    text = t.text ++ answer;
    sent = t.sent ++ s.sent;
    merge = merge_next_answer (length all) turn t.count all walks new t.text answer t.merge low t.at here;
    at = elim (next_rest (length all) t.count (omega arith)) [
      | inl n ↦ elim next [ inl f ↦ omega (arith, n.1, f.1, t.at) | inr f ↦ absurd (omega (arith, n.0, f.0, t.at)) ]
      | inr n ↦ elim next [ inl f ↦ absurd (omega (arith, n.0, f.0, t.at)) | inr f ↦ n.1 ∙ sym f.1 ]
    ];
    appended = Accepts-trans w0 w w' t.sent s.sent t.appended s.appended;
    parts = ap (λ l. l ++ answer) t.parts ∙ append_assoc t.sent pending answer ∙ ap (λ l. t.sent ++ l) (s.parts ∙ ap (λ l. s.sent ++ l) (sym s.pending)) ∙ sym (append_assoc t.sent s.sent pending');
  }

  -- all answers are sent
  pub Turns-end : {E : Type 0} → 0 < length all → get_or walks turn [] ≡ [] → SendsTurns {E = E} all w0 pending w (Ok tt)
  Turns-end some none = record {
    sent = t.sent;
    appended = t.appended;
    whole = λ count for.
        let same : t.count ≡ count = all_merged (length all) count t.count all walks t.text some for t.merge (ap (λ n. get_or walks n []) t.at ∙ none) in (
          pending,
          record { left = walks; merge = subst (λ (n : ℕ). IsMerged (length all) all walks n (t.sent ++ pending)) same (subst (λ (x : List ℕ). IsMerged (length all) all walks t.count x) t.parts t.merge) },
          refl,
        );
  }

  -- the writer failed
  pub Turns-fail : {E F : Type 0} (pending' pending'' answer : List ℕ) (new : Texts) (r : Result (Unit {0}) E) (r' : Result (Unit {0}) F) → IsErr r' → turn < length all → get_or walks turn [] ≡ answer ∷ new
      → Sends {E = E} (pending ++ answer) w pending' w' r → SendsTurns {E = F} all w0 pending'' w' r'
  Turns-fail pending' pending'' answer new r r' is low here s = record {
    sent = t.sent ++ s.sent;
    appended = Accepts-trans w0 w w' t.sent s.sent t.appended s.appended;
    whole = λ count for.
        let some : 0 < length all = omega arith in
        let more = merge_next_answer (length all) turn t.count all walks new t.text answer t.merge low t.at here in
        let few = not_more (length all) count (t.count + 1) all (set walks turn new) (t.text ++ answer) some for more in
        let rest = rest_of (count - (t.count + 1)) (length all) count (t.count + 1) all (set walks turn new) (t.text ++ answer) some for more (omega (arith, few)) in
        let whole : (t.text ++ answer) ++ rest.0 ≡ (t.sent ++ s.sent) ++ (s.rest ++ rest.0) =
        ap (λ l. (l ++ answer) ++ rest.0) t.parts ∙ ap (λ l. l ++ rest.0) (append_assoc t.sent pending answer ∙ ap (λ l. t.sent ++ l) s.parts ∙ sym (append_assoc t.sent s.sent s.rest))
        ∙ append_assoc (t.sent ++ s.sent) s.rest rest.0 in
        (s.rest ++ rest.0, record { left = rest.1; merge = subst (λ (x : List ℕ). IsMerged (length all) all rest.1 count x) whole rest.2 }, on_err _ r' is);
  }

-- the writer failed before the text after the answers
pub joins_fail : {E F : Type 0} (all : List Texts) (following pending : List ℕ) (w w' : SinkState) (r : Result (Unit {0}) E) (r' : Result (Unit {0}) F) → IsErr r' → SendsTurns {E = E} all w pending w' r → MergesTo {E = F} all following w w' r'
joins_fail all following pending w w' r r' is turns count for =
    let h = turns.whole count for in
    (turns.sent ++ h.0, h.1, record { sent = turns.sent; rest = h.0 ++ following; parts = append_assoc turns.sent h.0 following; appended = turns.appended; pending = on_err _ r' is })

-- the text after the answers is sent, with their pending bytes
pub merge_after_sending : {E F : Type 0} (all : List Texts) (following pending : List ℕ) (a b c : SinkState) (r : Result (Unit {0}) F) → SendsTurns {E = E} all a pending b (Ok tt)
    → Sends {E = F} (pending ++ following) b [] c r → MergesTo {E = F} all following a c r
merge_after_sending all following pending a b c r turns sends count for =
    let h = turns.whole count for in
    let whole : turns.sent ++ (pending ++ following) ≡ (turns.sent ++ h.0) ++ following = ap (λ l. turns.sent ++ (l ++ following)) (sym h.2) ∙ sym (append_assoc turns.sent h.0 following) in
    (turns.sent ++ h.0, h.1, subst (λ (l : List ℕ). Sends l a [] c r) whole (Sends-front turns.sent (pending ++ following) [] a b c r turns.appended sends))

-- the texts of a single lane are already merged
pub merge_of_single : (texts : Texts) (text : List ℕ) (count : ℕ) (all : List Texts) → all ≡ texts ∷ [] → AreForLines 1 all count → text ≡ concat texts → IsMerged 1 all ([] ∷ []) count text
merge_of_single texts text count all alone (lines, many, shared) is =
    let here : get_or all 0 [] ≡ texts = ap (λ l. get_or l 0 []) alone in
    record {
      done = texts;
      text_is = is;
      count_is = sym (ap length here) ∙ shared 0 (omega arith) ∙ ap length (dealt-alone 0 lines) ∙ many;
      wide = refl;
      parts = λ m inside.
          let first : 0 ≡ m = omega arith in
          subst (λ (n : ℕ). get_or all n [] ≡ in_lane n (dealt 1 texts) ++ get_or ([] ∷ []) n []) first
          (here ∙ sym (append-nil (in_lane 0 (dealt 1 texts)) ∙ dealt-alone 0 texts));
    }

only_one : {A : Type 0} (xs : List A) (d : A) → length xs ≡ 1 → xs ≡ get_or xs 0 d ∷ []
only_one [] d one = absurd (omega arith)
only_one (x ∷ []) d one = refl
only_one (x ∷ y ∷ xs) d one = absurd (omega arith)

-- the same, written with the text after them
pub single_text_is_merged : {E : Type 0} (all : List Texts) (text following : List ℕ) (a b : SinkState) (r : Result (Unit {0}) E) → length all ≡ 1 → text ≡ concat (get_or all 0 [])
    → Sends {E = E} (text ++ following) a [] b r → MergesTo {E = E} all following a b r
single_text_is_merged all text following a b r one is sends count for = (
  text,
  record {
    left = [] ∷ [];
    merge = subst (λ (n : ℕ). IsMerged n all ([] ∷ []) count text) (sym one) (merge_of_single (get_or all 0 []) text count all (only_one all [] one) (subst (λ (n : ℕ). AreForLines n all count) one for) is);
  },
  sends,
)

-- the same result, with another type of its error
pub joins_ok : {E F : Type 0} (all : List Texts) (following : List ℕ) (a b : SinkState) → MergesTo {E = E} all following a b (Ok tt) → MergesTo {E = F} all following a b (Ok tt)
joins_ok all following a b joins count for = let h = joins count for in (h.0, h.1, Sends-ok (h.0 ++ following) [] a b h.2)

pub merges_error : {E F : Type 0} (all : List Texts) (following : List ℕ) (a b : SinkState) (e : E) (f : F) → MergesTo {E = E} all following a b (Err e) → MergesTo {E = F} all following a b (Err f)
merges_error all following a b e f joins count for = let h = joins count for in (h.0, h.1, Sends-error (h.0 ++ following) [] [] a b (Err e) (Err f) refl h.2)

-- the texts of the next lane
pub next_has : (walks : List Texts) (turn : ℕ) (old new : Texts) (answer : List ℕ) → turn < length walks → old ≡ get_or walks turn old → old ≡ answer ∷ new → get_or walks turn [] ≡ answer ∷ new
next_has walks turn old new answer low here some = sym (here ∙ get_or_default walks turn old [] low) ∙ some

pub next_none : (walks : List Texts) (turn : ℕ) (old : Texts) → turn < length walks → old ≡ get_or walks turn old → old ≡ [] → get_or walks turn [] ≡ []
next_none walks turn old low here none = sym (here ∙ get_or_default walks turn old [] low) ∙ none
