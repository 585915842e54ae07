-- A legal history whose calls are those of the lanes' lines is a merge of the lanes, with lines without a call among
-- them.
use Rattle.std.proofs.Common.{◌≡◌, ◌≢◌, inl, inr, ℕ, zero, suc, ◌<◌, ◌≤◌, ◌==◌, eq-eqb, ne_eqb, Bool, cond}
use Rattle.std.proofs.Common.{if◌then◌else◌, List, [], ◌∷◌, Contains, refl, sym, ap, ◌∙◌, subst, arith}
use native.Mathlib.Decide.{ℕ_discrete}
use Rattle.moc_shared.specs.declared.record.Call.{Call}
use Rattle.moc_shared.specs.History.{calls_of, state_after, IsLegal}
use Rattle.moc_lines.specs.Runs.{Rules}
use Rattle.moc_script.specs.Crews.{InLane, put_in_lane, in_lane, answers_in, state_in_order}
use Rattle.moc_script.specs.Private.LaneWork.{IsRequestedBy, Performs}

module _ {A : Type 0} where
  -- the lists of all lanes, with that of one lane replaced
  pub with_lane : ℕ → A → (ℕ → A) → ℕ → A
  with_lane lane x lists d = if d == lane then x else lists d

  pub with_lane-here : (lane : ℕ) (x : A) (lists : ℕ → A) → with_lane lane x lists lane ≡ x
  unfolding with_lane
  with_lane-here lane x lists = ap (λ (b : Bool). if b then x else lists lane) (eq-eqb lane lane refl)

  pub with_lane-else : (lane : ℕ) (x : A) (lists : ℕ → A) (d : ℕ) → d ≢ lane → with_lane lane x lists d ≡ lists d
  unfolding with_lane
  with_lane-else lane x lists d other = ap (λ (b : Bool). if b then x else lists d) (ne_eqb d lane other)

  pub in_lane-here : (lane : ℕ) (x : A) (xs : List (InLane A)) → in_lane lane (put_in_lane lane x ∷ xs) ≡ x ∷ in_lane lane xs
  in_lane-here lane x xs = ap (λ (b : Bool). if b then x ∷ in_lane lane xs else in_lane lane xs) (eq-eqb lane lane refl)

  pub in_lane-else : (lane d : ℕ) (x : A) (xs : List (InLane A)) → d ≢ lane → in_lane d (put_in_lane lane x ∷ xs) ≡ in_lane d xs
  in_lane-else lane d x xs other = ap (λ (b : Bool). if b then x ∷ in_lane d xs else in_lane d xs) (ne_eqb lane d (λ e. other (sym e)))

module _ {S O R : Type 0} (object : S → O → S × R) (rules : Rules S) where
  -- an order of the lines of all lanes with these answers and this effect
  pub record Woven (s : S) (lines texts : ℕ → List (List ℕ)) (end : S) : Type 0 where
    pub order : List (InLane (List ℕ))
    pub merged : (lane : ℕ) → in_lane lane order ≡ lines lane
    pub answered : (lane : ℕ) → in_lane lane (answers_in rules s order) ≡ texts lane
    pub left : state_in_order rules s order ≡ end

  -- a line in front
  put : (s next end : S) (lines texts : ℕ → List (List ℕ)) (lane : ℕ) (line text : List ℕ) (rest later : List (List ℕ))
      → lines lane ≡ line ∷ rest → texts lane ≡ text ∷ later → rules.answer s line ≡ text → rules.after s line ≡ next
      → Woven next (with_lane lane rest lines) (with_lane lane later texts) end → Woven s lines texts end
  put s next end lines texts lane line text rest later here there denotes leaves w = record {
    order = put_in_lane lane line ∷ w.order;
    merged = λ d. merged d (ℕ_discrete d lane);
    answered = λ d. answered d (ℕ_discrete d lane);
    left = ap (λ (t : S). state_in_order rules t w.order) leaves ∙ w.left;
  }
    where
      tail : List (InLane (List ℕ))
      tail = answers_in rules next w.order

      front : answers_in rules s (put_in_lane lane line ∷ w.order) ≡ put_in_lane lane text ∷ tail
      front = ap (λ (t : List ℕ). put_in_lane lane t ∷ answers_in rules (rules.after s line) w.order) denotes ∙ ap (λ (t : S). put_in_lane lane text ∷ answers_in rules t w.order) leaves

      merged : (d : ℕ) → Dec (d ≡ lane) → in_lane d (put_in_lane lane line ∷ w.order) ≡ lines d
      merged d (yes e) =
          subst (λ (m : ℕ). in_lane m (put_in_lane lane line ∷ w.order) ≡ lines m) (sym e)
          (in_lane-here lane line w.order ∙ ap (λ l. line ∷ l) (w.merged lane ∙ with_lane-here lane rest lines) ∙ sym here)
      merged d (no other) = in_lane-else lane d line w.order other ∙ w.merged d ∙ with_lane-else lane rest lines d other

      answered : (d : ℕ) → Dec (d ≡ lane) → in_lane d (answers_in rules s (put_in_lane lane line ∷ w.order)) ≡ texts d
      answered d (yes e) =
          subst (λ (m : ℕ). in_lane m (answers_in rules s (put_in_lane lane line ∷ w.order)) ≡ texts m) (sym e)
          (ap (in_lane lane) front ∙ in_lane-here lane text tail ∙ ap (λ l. text ∷ l) (w.answered lane ∙ with_lane-here lane later texts) ∙ sym there)
      answered d (no other) = ap (in_lane d) front ∙ in_lane-else lane d text tail other ∙ w.answered d ∙ with_lane-else lane later texts d other

  -- the rest of the lanes fits the rest of the history
  abbrev AreLaneOutputs : (ℕ → List (List ℕ)) → List (Call O R) → (ℕ → List (List ℕ)) → Type 0
  AreLaneOutputs lines log texts = (lane : ℕ) → Performs object rules (lines lane) (calls_of lane log) (texts lane)

  -- the same for one lane
  with_done : (lines texts : ℕ → List (List ℕ)) (log : List (Call O R)) (lane : ℕ) (rest later : List (List ℕ))
      → ((d : ℕ) → d ≢ lane → Performs object rules (lines d) (calls_of d log) (texts d)) → Performs object rules rest (calls_of lane log) later
      → AreLaneOutputs (with_lane lane rest lines) log (with_lane lane later texts)
  with_done lines texts log lane rest later others here d = cases (ℕ_discrete d lane)
    where
      cases : Dec (d ≡ lane) → Performs object rules (with_lane lane rest lines d) (calls_of d log) (with_lane lane later texts d)
      cases (yes e) =
          subst (λ (m : ℕ). Performs object rules (with_lane lane rest lines m) (calls_of m log) (with_lane lane later texts m)) (sym e)
          (rw (with_lane-here lane rest lines, with_lane-here lane later texts) here)
      cases (no other) = rw (with_lane-else lane rest lines d other, with_lane-else lane later texts d other) (others d other)

  -- only the lanes below n have lines
  abbrev AreBelow : ℕ → (ℕ → List (List ℕ)) → Type 0
  AreBelow n lines = (lane : ℕ) → n ≤ lane → lines lane ≡ []

  with_below : (n lane : ℕ) (rest : List (List ℕ)) (lines : ℕ → List (List ℕ)) → lane < n → AreBelow n lines → AreBelow n (with_lane lane rest lines)
  with_below n lane rest lines low below d high = with_lane-else lane rest lines d (λ e. omega arith) ∙ below d high

  -- lines of one lane, up to its next call
  next_call : (n : ℕ) (e : Call O R) (log : List (Call O R)) (s end : S) → e.client < n → e.reply ≡ (object s e.operation).1
      → ((lines texts : ℕ → List (List ℕ)) → AreLaneOutputs lines log texts → AreBelow n lines → Woven (object s e.operation).0 lines texts end)
      → (here there : List (List ℕ)) (lines texts : ℕ → List (List ℕ)) → lines e.client ≡ here → texts e.client ≡ there → AreBelow n lines
      → ((d : ℕ) → d ≢ e.client → Performs object rules (lines d) (calls_of d log) (texts d))
      → Performs object rules here (e ∷ calls_of e.client log) there
      → Woven s lines texts end
  next_call n e log s end low legal later [] there lines texts h t below others does = cc
  next_call n e log s end low legal later (line ∷ here) there lines texts h t below others (text, rest, is, inl (quiet, does)) =
      put s s end lines texts e.client line text here rest h (t ∙ is) (quiet s).0 (quiet s).1
      (next_call n e log s end low legal later here rest (with_lane e.client here lines) (with_lane e.client rest texts) (with_lane-here e.client here lines) (with_lane-here e.client rest texts)
      (with_below n e.client here lines low below)
      (λ d other. rw (with_lane-else e.client here lines d other, with_lane-else e.client rest texts d other) (others d other)) does)
  next_call n e log s end low legal later (line ∷ here) there lines texts h t below others (text, rest, is, inr (f, calls, same, requests, does)) =
      let call_is : f ≡ e = cc in
      let calls_are : calls ≡ calls_of e.client log = cc in
      let requested : IsRequestedBy object rules line e text = subst (λ (q : Call O R). IsRequestedBy object rules line q text) call_is requests in
      put s (object s e.operation).0 end lines texts e.client line text here rest h (t ∙ is) ((requested s).1 legal) (requested s).0
      (later (with_lane e.client here lines) (with_lane e.client rest texts)
      (with_done lines texts log e.client here rest others (subst (λ (q : List (Call O R)). Performs object rules here q rest) calls_are does))
      (with_below n e.client here lines low below))

  -- the lines of the last lane, when no call is left
  flush_lane : (n : ℕ) (s : S) → ((lines texts : ℕ → List (List ℕ)) → AreLaneOutputs lines [] texts → AreBelow n lines → Woven s lines texts s)
      → (here there : List (List ℕ)) (lines texts : ℕ → List (List ℕ)) → lines n ≡ here → texts n ≡ there → AreBelow (suc n) lines
      → ((d : ℕ) → d ≢ n → Performs object rules (lines d) [] (texts d)) → Performs object rules here [] there → Woven s lines texts s
  flush_lane n s later [] there lines texts h t below others does = later lines texts all low
    where
      all : AreLaneOutputs lines [] texts
      all d = cases (ℕ_discrete d n)
        where
          cases : Dec (d ≡ n) → Performs object rules (lines d) [] (texts d)
          cases (yes e) = subst (λ (m : ℕ). Performs object rules (lines m) [] (texts m)) (sym e) (rw (h, t) does)
          cases (no other) = others d other

      low : AreBelow n lines
      low d high = cases (ℕ_discrete d n)
        where
          cases : Dec (d ≡ n) → lines d ≡ []
          cases (yes e) = ap lines e ∙ h
          cases (no other) = below d (omega arith)
  flush_lane n s later (line ∷ here) there lines texts h t below others (text, rest, is, inl (quiet, does)) =
      put s s s lines texts n line text here rest h (t ∙ is) (quiet s).0 (quiet s).1
      (flush_lane n s later here rest (with_lane n here lines) (with_lane n rest texts) (with_lane-here n here lines) (with_lane-here n rest texts)
      (with_below (suc n) n here lines (omega arith) below)
      (λ d other. rw (with_lane-else n here lines d other, with_lane-else n rest texts d other) (others d other)) does)
  flush_lane n s later (line ∷ here) there lines texts h t below others (text, rest, is, inr (f, calls, same, requests, does)) = cc

  flush : (n : ℕ) (s : S) (lines texts : ℕ → List (List ℕ)) → AreLaneOutputs lines [] texts → AreBelow n lines → Woven s lines texts s
  flush zero s lines texts does below = record {
    order = [];
    merged = λ lane. sym (below lane (omega arith));
    answered = λ lane. sym (let h : Performs object rules [] [] (texts lane) = rw (below lane (omega arith)) at (does lane) in h.1);
    left = refl;
  }
  flush (suc n) s lines texts does below =
      flush_lane n s (flush n s) (lines n) (texts n) lines texts refl refl below (λ d other. does d) (does n)

  calls_of-here : (e : Call O R) (log : List (Call O R)) → calls_of e.client (e ∷ log) ≡ e ∷ calls_of e.client log
  calls_of-here e log = ap (λ (b : Bool). cond b (e ∷ calls_of e.client log) (calls_of e.client log)) (eq-eqb e.client e.client refl)

  calls_of-else : (e : Call O R) (log : List (Call O R)) (d : ℕ) → d ≢ e.client → calls_of d (e ∷ log) ≡ calls_of d log
  calls_of-else e log d other = ap (λ (b : Bool). cond b (e ∷ calls_of d log) (calls_of d log)) (ne_eqb e.client d (λ s. other (sym s)))

  -- A legal history of the clients below n, in which each client's calls are those of its lane's lines: there is an
  -- order of all lines.
  pub weave : (n : ℕ) (log : List (Call O R)) (s : S) → IsLegal object s log → ((e : Call O R) → Contains log e → e.client < n)
      → (lines texts : ℕ → List (List ℕ)) → AreLaneOutputs lines log texts → AreBelow n lines → Woven s lines texts (state_after object s log)
  weave n [] s legal named lines texts does below = flush n s lines texts does below
  weave n (e ∷ log) s legal named lines texts does below =
      next_call n e log s (state_after object (object s e.operation).0 log) (named e (0, omega arith, refl)) legal.0
      (weave n log (object s e.operation).0 legal.1 (λ f i. named f (suc i.0, (let low = i.1 in omega arith), i.2)))
      (lines e.client) (texts e.client) lines texts refl refl below
      (λ d other. subst (λ (q : List (Call O R)). Performs object rules (lines d) q (texts d)) (calls_of-else e log d other) (does d))
      (subst (λ (q : List (Call O R)). Performs object rules (lines e.client) q (texts e.client)) (calls_of-here e log) (does e.client))
