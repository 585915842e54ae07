-- Steps that regroup records: reading the history, joining seats, and splitting a seat.
use Rattle.std.proofs.Common.{◌≡◌, ◌≢◌, ◌⊎◌, ℕ, zero, suc, ◌+◌, ◌<◌, ◌≤◌, List, [], ◌∷◌, ◌++◌, map, length, set, refl}
use Rattle.std.proofs.Common.{sym, ap, ◌∙◌, subst, inl, inr, ⊎_elim, arith, zero-add, sum_by, eqb, cond, Contains}
use mathlib.Core.Option.{Option, none, some, some-ne-none, some-injective}
use mathlib.Core.Logic.{dite}
use native.Mathlib.Decide.{ℕ_discrete}
use lib.ListN.{get_elem?}
use Rattle.std.proofs.lemmas.List.{set-get_or}
use Rattle.std.proofs.lemmas.List.Elements.{Contains-append_cases, Contains-append_left, Contains-append_right}
use Rattle.std.proofs.lemmas.List.Sums.{sum_by-cons, sum_by-append, sum_by_push}
use Rattle.atomic_table.specs.Table.{State, Me, step, Allows, Joins, Splits}
use Rattle.atomic_table.specs.Table.Act.{keeps}
use Rattle.atomic_table.proofs.Lists.{at_set, set_else, at_snoc, at_longer, at_last}
use Rattle.moc_shared.specs.declared.record.Call.{Call}
use Rattle.moc_shared.specs.declared.record.Calls.{Calls}
use Rattle.moc_shared.specs.declared.record.Record.{Record}
use Rattle.moc_shared.specs.declared.record.Note.{Note}
use Rattle.moc_shared.specs.declared.record.View.{View}
use Rattle.moc_shared.specs.History.{StartsWith, IsConsistent, StandsFor, times_standing, IsLegal, IsHistory, MissesMarked}
use Rattle.moc_shared.specs.Seats.{note}
use Rattle.moc_shared.specs.Private.Invariant.{records, IsPresent, times_in_view, times_in_views, SomeHolds, IsConsistentView, TableInvariant}
use Rattle.moc_shared.specs.Private.StepEffects.{with_seen, merged_record, with_history, merged, joined_views, first_record, ReadsHistory, MergesRecords, MergesWith}
use Rattle.moc_shared.specs.Private.InitialViews.{no_client, idle_view, view_for}
use Rattle.moc_shared.proofs.Basics.{here, there, nothing_in_empty_list, only, cons_cases, sum_set, sum_set_same, starts_itself}
use Rattle.moc_shared.proofs.DistinctClients.{stood_of, present_cases}

module _ {S X O R Y : Type 0} (n : ℕ) (content : S → Y) (part : ℕ → X → Y) (answer : X → O → X × R)
    (valid : X → Type 0) (start : X) (clients : ℕ) where
  abbrev V : Type 0
  V = View X O R Y

  abbrev Invariant : State S V → Type 0
  Invariant s = TableInvariant n content part answer valid start clients s

  abbrev FitsIn : List (Call O R) → List ℕ → List (Option S) → V → Type 0
  FitsIn log words homes v = IsConsistentView n content part answer valid start clients log words homes v

  -- each record that stands for h has the marks of an old record that stood for h
  abbrev MarksStay : List V → List V → Type 0
  MarksStay views views' = (r : Record O R) (h : ℕ) → IsPresent views' r → StandsFor r h → (q : Record O R)
      × IsPresent views q × StandsFor q h × ((b : ℕ) → Contains q.marks (h, b) → Contains r.marks (h, b))

  abbrev MissesStay : List V → List V → Type 0
  MissesStay views views' = (r : Record O R) (h b : ℕ) → IsPresent views' r → Contains r.misses (h, b) → (q : Record O R)
      × IsPresent views q × Contains q.misses (h, b)

  regrouped : (s : State S V) (k : Invariant s) (views : List V) → ((b : ℕ) → SomeHolds s.views b → SomeHolds views b)
      → ((j : ℕ) (u : V) → get_elem? views j ≡ some u → FitsIn k.log s.words s.homes u)
      → MarksStay s.views views → MissesStay s.views views → ((c : ℕ) → times_in_views c views ≤ times_in_views c s.views)
      → ((r : Record O R) × IsPresent views r × (r.seen ≡ k.log))
      → Invariant record { words = s.words; homes = s.homes; views = views }
  regrouped s k views parts fits marks misses sums seen_by_some = record {
    log = k.log;
    legal = k.legal;
    seen_by_some = seen_by_some;
    set_is_valid = k.set_is_valid;
    clients_are_known = k.clients_are_known;
    word_count = k.word_count;
    slot_count = k.slot_count;
    spare = k.spare;
    each_part = λ b l. ⊎_elim (λ f. inl f) (λ h. inr (parts b h)) (k.each_part b l);
    each_view = fits;
    misses_are_marks = λ r q pr pq h b m st.
        let a = misses r h b pr m in
        let z = marks q h pq st in
        z.3 b (k.misses_are_marks a.0 z.0 a.1 z.1 h b a.2 z.2);
    clients_are_distinct = λ c. let within_max = k.clients_are_distinct c in let less = sums c in omega arith;
  }

  at_new : (views : List V) (id : ℕ) (v w : V) → get_elem? views id ≡ some v → get_elem? (set views id w) id ≡ some w
  at_new [] id v w e = absurd (some-ne-none v (sym e))
  at_new (x ∷ xs) zero v w e = refl
  at_new (x ∷ xs) (suc id) v w e = at_new xs id v w e

  -- a part that was held is still held if the new view holds what the old one held
  still_held : (views : List V) (id : ℕ) (v w : V) (b : ℕ) → get_elem? views id ≡ some v → w.holds ≡ v.holds
      → SomeHolds views b → SomeHolds (set views id w) b
  still_held views id v w b at same (i, u, y, e, h) = dite (ℕ_discrete i id)
      (λ here. let one : u ≡ v = some-injective u v
      (sym e ∙ subst (λ (k : ℕ). get_elem? views k ≡ some v) (sym here) at) in (
        id,
        w,
        y,
        at_new views id v w at,
        subst (λ (l : List (Note Y)). Contains l (note b y)) (sym same)
            (subst (λ (x : V). Contains x.holds (note b y)) one h),
      ))
      (λ other. (i, u, y, set_else views id i w other ∙ e, h))

  seen_cases : (log : List (Call O R)) (rs : List (Record O R)) (r : Record O R) → Contains (map (with_seen log) rs) r
      → (q : Record O R) × Contains rs q × (with_seen log q ≡ r)
  seen_cases log [] r h = absurd (nothing_in_empty_list r h)
  seen_cases log (x ∷ xs) r h =
      ⊎_elim (λ (e : with_seen log x ≡ r). (x, here x xs, e))
      (λ (t : Contains (map (with_seen log) xs) r). let u = seen_cases log xs r t in (u.0, there x xs u.0 u.1, u.2))
      (cons_cases (with_seen log x) (map (with_seen log) xs) r h)

  seen_stood : (log : List (Call O R)) (c : ℕ) (rs : List (Record O R))
      → sum_by (times_standing c) (map (with_seen log) rs) ≡ sum_by (times_standing c) rs
  seen_stood log c [] = refl
  seen_stood log c (x ∷ xs) = sum_by-cons (times_standing c) (with_seen log x) (map (with_seen log) xs)
      ∙ ap (λ (m : ℕ). times_standing c x + m) (seen_stood log c xs) ∙ sym (sum_by-cons (times_standing c) x xs)

  looked_kept : (s : State S V) (k : Invariant s) (id : ℕ) (v : V) → get_elem? s.views id ≡ some v
      → Invariant record { words = s.words; homes = s.homes; views = set s.views id (with_history v k.log) }
  looked_kept s k id v at =
      let w = with_history v k.log in
      let log = k.log in
      let old = k.each_view id v at in
      let was = λ (r : Record O R) (h : Contains (records w) r). let q : (q : Record O R) × Contains (records v) q
      × (with_seen log q ≡ r) = seen_cases log (records v) r h in q in
      let same_sums : (c : ℕ) → times_in_view c w ≡ times_in_view c v = (λ c. seen_stood log c (records v)) in
      regrouped s k (set s.views id w)
      (λ b h. still_held s.views id v w b at refl h)
      (λ j u e. ⊎_elim
      (λ (t : (j ≡ id) × (w ≡ u)). subst (FitsIn log s.words s.homes) t.1 record {
        same_map = λ c p. old.same_map c (subst (λ (m : ℕ). 0 < m) (same_sums c) p);
        fits = λ r h. let q = was r h in let f = (old.fits q.0 q.1).0 in
            subst (λ (x : Record O R). IsConsistent log x × IsConsistent x.seen x) q.2
            ((starts_itself log, f.1), (starts_itself log, f.1));
        known = λ r h c st. let q = was r h in
            old.known q.0 q.1 c (subst (λ (x : Record O R). StandsFor x c) (sym q.2) st);
        holding = λ b y h. let m = old.holding b y h in
            record {
              within = m.within;
              word_is = m.word_is;
              out = m.out;
              noted = m.noted;
              marked = m.marked;
              stands = m.stands;
            };
      })
      (λ (t : (j ≢ id) × (get_elem? s.views j ≡ some u)). k.each_view j u t.1)
      (at_set s.views id j w u e))
      (λ r h p st. ⊎_elim
      (λ (i : Contains (records w) r). let q = was r i in (
        q.0,
        (id, v, at, q.1),
        subst (λ (x : Record O R). StandsFor x h) (sym q.2) st,
        λ b m. subst
            (λ (x : Record O R). Contains x.marks (h, b)) q.2 m,
      ))
      (λ (o : IsPresent s.views r). (r, o, st, λ b m. m))
      (present_cases s.views id w r p))
      (λ r h b p m. ⊎_elim
      (λ (i : Contains (records w) r). let q = was r i in
      (q.0, (id, v, at, q.1), subst (λ (x : Record O R). Contains x.misses (h, b)) (sym q.2) m))
      (λ (o : IsPresent s.views r). (r, o, m))
      (present_cases s.views id w r p))
      (λ c. let e = sum_set_same (times_in_view c) s.views id v w at (same_sums c) in omega arith)
      (w.mine, (id, w, at_new s.views id v w at, here w.mine w.others), refl)

  stood_both : (c : ℕ) (r q : Record O R) (log : List (Call O R)) → times_standing c (merged_record r q log) ≡ times_standing c r + times_standing c q
  stood_both c r q log = sum_by-append (λ (k : Calls O R). cond (eqb k.client c) 1 0) r.own q.own

  stood_two : (c : ℕ) (v : V) (q : Record O R) → v.others ≡ q ∷ [] → times_in_view c v ≡ times_standing c v.mine + times_standing c q
  stood_two c v q two = ap (λ (l : List (Record O R)). sum_by (times_standing c) (v.mine ∷ l)) two
      ∙ sum_by-cons (times_standing c) v.mine (q ∷ []) ∙ ap (λ (m : ℕ). times_standing c v.mine + m) (zero-add (times_standing c q))

  gathered_kept : (s : State S V) (k : Invariant s) (id : ℕ) (v : V) (q : Record O R) → get_elem? s.views id ≡ some v
      → v.others ≡ q ∷ []
      → Invariant record { words = s.words; homes = s.homes; views = set s.views id (merged v q k.log) }
      × StartsWith k.log v.mine.seen × StartsWith k.log q.seen × IsConsistent k.log (merged_record v.mine q k.log)
      × MissesMarked (merged_record v.mine q k.log)
  gathered_kept s k id v q at two =
      let w = merged v q k.log in
      let log = k.log in
      let old = k.each_view id v at in
      let first = here v.mine v.others in
      let second : Contains (records v) q =
      subst (λ (l : List (Record O R)). Contains (v.mine ∷ l) q) (sym two) (there v.mine (q ∷ []) q (here q [])) in
      let f = (old.fits v.mine first).0 in
      let g = (old.fits q second).0 in
      let fit : IsConsistent log w.mine = (
        starts_itself log,
        λ c i. ⊎_elim (λ (t : Contains v.mine.own c). f.1 c t) (λ (t : Contains q.own c). g.1 c t)
            (Contains-append_cases v.mine.own q.own c i),
      ) in
      let same_sums : (c : ℕ) → times_in_view c w ≡ times_in_view c v =
      (λ c. zero-add (times_standing c w.mine) ∙ stood_both c v.mine q log ∙ sym (stood_two c v q two)) in
      let one = λ (r : Record O R) (h : Contains (records w) r). let e : w.mine ≡ r = only w.mine r h in e in
      let marks : MarksStay s.views (set s.views id w) = (λ r h p st. ⊎_elim
      (λ (i : Contains (records w) r). let e = one r i in
      let st' : StandsFor w.mine h = subst (λ (x : Record O R). StandsFor x h) (sym e) st in let sum =
      stood_both h v.mine q log in pick h r e st' sum)
      (λ (o : IsPresent s.views r). (r, o, st, λ b m. m))
      (present_cases s.views id w r p)) in
      let misses : MissesStay s.views (set s.views id w) = (λ r h b p m. ⊎_elim
      (λ (i : Contains (records w) r). ⊎_elim (λ (t : Contains v.mine.misses (h, b)). (v.mine, (id, v, at, first), t))
      (λ (t : Contains q.misses (h, b)). (q, (id, v, at, second), t))
      (Contains-append_cases v.mine.misses q.misses (h, b)
      (subst (λ (x : Record O R). Contains x.misses (h, b)) (sym (one r i)) m)))
      (λ (o : IsPresent s.views r). (r, o, m))
      (present_cases s.views id w r p)) in
      let kept : Invariant record { words = s.words; homes = s.homes; views = set s.views id w } =
      regrouped s k (set s.views id w)
      (λ b h. still_held s.views id v w b at refl h)
      (λ j u e. ⊎_elim
      (λ (t : (j ≡ id) × (w ≡ u)). subst (FitsIn log s.words s.homes) t.1 record {
        same_map = λ c p. old.same_map c (subst (λ (m : ℕ). 0 < m) (same_sums c) p);
        fits = λ r h. subst (λ (x : Record O R). IsConsistent log x × IsConsistent x.seen x) (one r h) (fit, fit);
        known = λ r h c st. known_one c (subst (λ (x : Record O R). StandsFor x c) (sym (one r h)) st);
        holding = λ b y h. let m = old.holding b y h in let st = m.stands in let sum =
            stood_both v.mine.number v.mine q log in
            record {
              within = m.within;
              word_is = m.word_is;
              out = m.out;
              noted = m.noted;
              marked = Contains-append_left v.mine.marks q.marks (v.mine.number, b) m.marked;
              stands =
                  subst (λ (x : ℕ). 0 < x) (sym sum) (omega arith);
            };
      })
      (λ (t : (j ≢ id) × (get_elem? s.views j ≡ some u)). k.each_view j u t.1)
      (at_set s.views id j w u e))
      marks
      misses
      (λ c. let e = sum_set_same (times_in_view c) s.views id v w at (same_sums c) in omega arith)
      (w.mine, (id, w, at_new s.views id v w at, here w.mine w.others), refl) in (
        kept,
        f.0,
        g.0,
        fit,
        λ h b m st. kept.misses_are_marks w.mine w.mine
            (id, w, at_new s.views id v w at, here w.mine w.others)
            (id, w, at_new s.views id v w at, here w.mine w.others) h b m st,
      )
    where
      second' : Contains (records v) q
      second' =
          subst (λ (l : List (Record O R)). Contains (v.mine ∷ l) q) (sym two) (there v.mine (q ∷ []) q (here q []))

      known_one : (c : ℕ) → StandsFor (merged_record v.mine q k.log) c → c < clients
      known_one c st = dite (ℕ_discrete (times_standing c v.mine) 0)
          (λ z. (k.each_view id v at).known q second' c
          (let sum = stood_both c v.mine q k.log in let z' : times_standing c v.mine ≡ 0 = z in omega arith))
          (λ nz. (k.each_view id v at).known v.mine (here v.mine v.others) c
          (let z' : times_standing c v.mine ≢ 0 = nz in omega arith))

      pick : (h : ℕ) (r : Record O R) → merged_record v.mine q k.log ≡ r → StandsFor (merged_record v.mine q k.log) h
          → times_standing h (merged_record v.mine q k.log) ≡ times_standing h v.mine + times_standing h q
          → (x : Record O R) × IsPresent s.views x × StandsFor x h
          × ((b : ℕ) → Contains x.marks (h, b) → Contains r.marks (h, b))
      pick h r e st sum = dite (ℕ_discrete (times_standing h v.mine) 0)
          (λ z. (
            q,
            (id, v, at, second'),
            (let z' : times_standing h v.mine ≡ 0 = z in omega arith),
            λ b m. subst
                (λ (x : Record O R). Contains x.marks (h, b)) e (Contains-append_right v.mine.marks q.marks (h, b) m),
          ))
          (λ nz. (
            v.mine,
            (id, v, at, here v.mine v.others),
            (let z' : times_standing h v.mine ≢ 0 = nz in omega arith),
            λ b m.
                subst (λ (x : Record O R). Contains x.marks (h, b)) e
                (Contains-append_left v.mine.marks q.marks (h, b) m),
          ))

  none_stood : (c : ℕ) → StandsFor (no_client {O = O} {R = R}) c → ⊥
  none_stood c st = omega arith

  joined_kept : (s : State S V) (k : Invariant s) (id : ℕ) (v : V) (other : ℕ) (w spent : V) → StandsFor v.mine v.mine.number
      → spent.mine ≡ no_client → spent.others ≡ [] → spent.holds ≡ [] → w.holds ≡ [] → get_elem? s.views id ≡ some v
      → other ≢ id → get_elem? s.views other ≡ some w
      → Invariant record { words = s.words; homes = s.homes; views = set (set s.views id (joined_views v w)) other spent }
  joined_kept s k id v other w spent stands empty_slots lone empty free at apart there_is =
      let u = joined_views v w in
      let log = k.log in
      let old = k.each_view id v at in
      let and = k.each_view other w there_is in
      let mid = set s.views id u in
      let at_mid : get_elem? mid other ≡ some w = set_else s.views id other u apart ∙ there_is in
      let from = λ (r : Record O R) (h : Contains (records u) r). let t : Contains (records v) r
      ⊎ Contains (records w) r = Contains-append_cases (records v) (records w) r h in t in
      let spent_is : (r : Record O R) → Contains (records spent) r → no_client ≡ r =
      (λ r h. sym empty_slots ∙ only spent.mine r (subst (λ (l : List (Record O R)). Contains (spent.mine ∷ l) r) lone h))
      in
      let was : (r : Record O R) → IsPresent (set mid other spent) r → (no_client ≡ r) ⊎ IsPresent s.views r = (λ r p. ⊎_elim
      (λ (h : Contains (records spent) r). inl (spent_is r h))
      (λ (m : IsPresent mid r). ⊎_elim
      (λ (h : Contains (records u) r). ⊎_elim (λ (a : Contains (records v) r). inr (id, v, at, a))
      (λ (b : Contains (records w) r). inr (other, w, there_is, b)) (from r h)) (λ (o : IsPresent s.views r). inr o)
      (present_cases s.views id u r m))
      (present_cases mid other spent r p)) in
      let sum_u : (c : ℕ) → times_in_view c u ≡ times_in_view c v + times_in_view c w =
      (λ c. sum_by-append (times_standing c) (records v) (records w)) in
      let sum_spent : (c : ℕ) → times_in_view c spent ≡ 0 =
      (λ c. ap (λ (l : List (Record O R)). sum_by (times_standing c) (spent.mine ∷ l)) lone
      ∙ ap (λ (r : Record O R). 0 + times_standing c r) empty_slots) in
      regrouped s k (set mid other spent)
      (λ b h. goes b h)
      (λ j x e. ⊎_elim
      (λ (t : (j ≡ other) × (spent ≡ x)). subst (FitsIn log s.words s.homes) t.1 record {
        same_map = λ c p. let z = sum_spent c in absurd (omega arith);
        fits = λ r h. subst (λ (q : Record O R). IsConsistent log q × IsConsistent q.seen q) (spent_is r h)
            (((log, refl), λ c i. absurd (nothing_in_empty_list c i)), (([], refl), λ c i. absurd (nothing_in_empty_list c i)));
        known = λ r h c st. absurd (none_stood c (subst (λ (q : Record O R). StandsFor q c) (sym (spent_is r h)) st));
        holding = λ b y h. absurd (nothing_in_empty_list (note b y) (subst (λ (l : List (Note Y)). Contains l (note b y)) empty h));
      })
      (λ (t : (j ≢ other) × (get_elem? mid j ≡ some x)). ⊎_elim
      (λ (q : (j ≡ id) × (u ≡ x)). subst (FitsIn log s.words s.homes) q.1 record {
        same_map =
            λ c p. old.same_map v.mine.number
            (let a = stood_of v.mine.number v v.mine (here v.mine v.others) in omega arith);
        fits = λ r h. ⊎_elim (λ (a : Contains (records v) r). old.fits r a)
            (λ (b : Contains (records w) r). and.fits r b) (from r h);
        known = λ r h c st. ⊎_elim (λ (a : Contains (records v) r). old.known r a c st)
            (λ (b : Contains (records w) r). and.known r b c st) (from r h);
        holding = λ b y h. let m = old.holding b y h in
            record {
              within = m.within;
              word_is = m.word_is;
              out = m.out;
              noted = m.noted;
              marked = m.marked;
              stands = m.stands;
            };
      })
      (λ (q : (j ≢ id) × (get_elem? s.views j ≡ some x)). k.each_view j x q.1)
      (at_set s.views id j u x t.1))
      (at_set mid other j spent x e))
      (λ r h p st. ⊎_elim
      (λ (z : no_client ≡ r). absurd (none_stood h (subst (λ (q : Record O R). StandsFor q h) (sym z) st)))
      (λ (o : IsPresent s.views r). (r, o, st, λ b m. m)) (was r p))
      (λ r h b p m. ⊎_elim
      (λ (z : no_client ≡ r). absurd (nothing_in_empty_list (h, b) (subst (λ (q : Record O R). Contains q.misses (h, b)) (sym z) m)))
      (λ (o : IsPresent s.views r). (r, o, m)) (was r p))
      (λ c. let a = sum_set (times_in_view c) s.views id v u at in let b = sum_set (times_in_view c) mid other w spent at_mid in
      let d = sum_u c in let e = sum_spent c in omega arith)
      (seen_by k.seen_by_some.0 k.seen_by_some.1 k.seen_by_some.2)
    where
      seen_by : (r : Record O R) → IsPresent s.views r → r.seen ≡ k.log → (q : Record O R)
          × IsPresent (set (set s.views id (joined_views v w)) other spent) q × (q.seen ≡ k.log)
      seen_by r (i, x, e, h) all = dite (ℕ_discrete i other)
          (λ z. let one : x ≡ w = some-injective x w
          (sym e ∙ subst (λ (j : ℕ). get_elem? s.views j ≡ some w) (sym z) there_is) in (
            r,
            (
              id,
              joined_views v w,
              set_else (set s.views id (joined_views v w)) other id spent (λ q. apart (sym q))
                  ∙ at_new s.views id v (joined_views v w) at,
              Contains-append_right (records v) (records w) r
                  (subst (λ (q : V). Contains (records q) r) one h),
            ),
            all,
          ))
          (λ ne. dite (ℕ_discrete i id)
          (λ z. let one : x ≡ v = some-injective x v
          (sym e ∙ subst (λ (j : ℕ). get_elem? s.views j ≡ some v) (sym z) at) in (
            r,
            (
              id,
              joined_views v w,
              set_else (set s.views id (joined_views v w)) other id spent (λ q. apart (sym q))
                  ∙ at_new s.views id v (joined_views v w) at,
              Contains-append_left (records v) (records w) r
                  (subst (λ (q : V). Contains (records q) r) one h),
            ),
            all,
          ))
          (λ nz. (
            r,
            (
              i,
              x,
              set_else (set s.views id (joined_views v w)) other i spent ne
                  ∙ set_else s.views id i (joined_views v w) nz ∙ e,
              h,
            ),
            all,
          )))

      -- the parts that were held are still held
      goes : (b : ℕ) → SomeHolds s.views b → SomeHolds (set (set s.views id (joined_views v w)) other spent) b
      goes b (i, x, y, e, h) = dite (ℕ_discrete i other)
          (λ z. let one : x ≡ w = some-injective x w
          (sym e ∙ subst (λ (j : ℕ). get_elem? s.views j ≡ some w) (sym z) there_is) in
          absurd (nothing_in_empty_list (note b y)
          (subst (λ (l : List (Note Y)). Contains l (note b y)) free
          (subst (λ (q : V). Contains q.holds (note b y)) one h))))
          (λ ne. dite (ℕ_discrete i id)
          (λ z. let one : x ≡ v = some-injective x v
          (sym e ∙ subst (λ (j : ℕ). get_elem? s.views j ≡ some v) (sym z) at) in (
            id,
            joined_views v w,
            y,
            set_else (set s.views id (joined_views v w)) other id spent (λ q. apart (sym q))
                ∙ at_new s.views id v (joined_views v w) at,
            subst (λ (q : V). Contains q.holds (note b y)) one h,
          ))
          (λ nz. (
            i,
            x,
            y,
            set_else (set s.views id (joined_views v w)) other i spent ne
                ∙ set_else s.views id i (joined_views v w) nz ∙ e,
            h,
          )))

  cut_kept : (s : State S V) (k : Invariant s) (id : ℕ) (v right : V) → StandsFor v.mine v.mine.number
      → get_elem? s.views id ≡ some v → right.start ≡ v.start → right.clients ≡ v.clients → right.holds ≡ []
      → ((r : Record O R) → Contains (records right) r → (no_client ≡ r) ⊎ Contains v.others r)
      → ((r : Record O R) → Contains v.others r → Contains (records right) r)
      → ((c : ℕ) → times_in_view c right ≡ sum_by (times_standing c) v.others)
      → Invariant record { words = s.words; homes = s.homes; views = set s.views id (first_record v) ++ right ∷ [] }
  cut_kept s k id v right stands at same_start same_clients empty theirs keep sums =
      let left = first_record v in
      let log = k.log in
      let old = k.each_view id v at in
      let mid = set s.views id left in
      let first = here v.mine v.others in
      let map_of = old.same_map v.mine.number (let a = stood_of v.mine.number v v.mine first in omega arith) in
      let two : (c : ℕ) → times_in_view c v ≡ times_standing c v.mine + sum_by (times_standing c) v.others =
      (λ c. sum_by-cons (times_standing c) v.mine v.others) in
      let in_old = λ (r : Record O R) (h : Contains v.others r). let t : IsPresent s.views r =
      (id, v, at, there v.mine v.others r h) in t in
      let right_was = λ (r : Record O R) (h : Contains (records right) r). let t : (no_client ≡ r) ⊎ IsPresent s.views r =
      ⊎_elim (λ z. inl z) (λ o. inr (in_old r o)) (theirs r h) in t in
      let was : (r : Record O R) → IsPresent (mid ++ right ∷ []) r → (no_client ≡ r) ⊎ IsPresent s.views r = (λ r p. ⊎_elim
      (λ (e : get_elem? mid p.0 ≡ some p.1). ⊎_elim
      (λ (h : Contains (records left) r). inr
      (id, v, at, subst (λ (q : Record O R). Contains (records v) q) (only v.mine r h) first))
      (λ (o : IsPresent s.views r). inr o)
      (present_cases s.views id left r (p.0, p.1, e, p.3)))
      (λ (e : right ≡ p.1). right_was r (subst (λ (q : V). Contains (records q) r) (sym e) p.3))
      (at_snoc mid right p.1 p.0 p.2)) in
      regrouped s k (mid ++ right ∷ [])
      (λ b h. let t = still_held s.views id v left b at refl h in
      (t.0, t.1, t.2, at_longer mid (right ∷ []) t.0 t.1 t.3, t.4))
      (λ j x e. ⊎_elim
      (λ (m : get_elem? mid j ≡ some x). ⊎_elim
      (λ (q : (j ≡ id) × (left ≡ x)). subst (FitsIn log s.words s.homes) q.1 record {
        same_map = λ c p. map_of;
        fits = λ r h. subst (λ (y : Record O R). IsConsistent log y × IsConsistent y.seen y) (only v.mine r h) (old.fits v.mine first);
        known = λ r h c st. old.known v.mine first c
            (subst (λ (y : Record O R). StandsFor y c) (sym (only v.mine r h)) st);
        holding = λ b y h. let d = old.holding b y h in
            record {
              within = d.within;
              word_is = d.word_is;
              out = d.out;
              noted = d.noted;
              marked = d.marked;
              stands = d.stands;
            };
      })
      (λ (q : (j ≢ id) × (get_elem? s.views j ≡ some x)). k.each_view j x q.1)
      (at_set s.views id j left x m))
      (λ (q : right ≡ x). subst (FitsIn log s.words s.homes) q record {
        same_map = λ c p. (same_start ∙ map_of.0, same_clients ∙ map_of.1);
        fits = λ r h. ⊎_elim
            (λ (z : no_client ≡ r). subst (λ (y : Record O R). IsConsistent log y × IsConsistent y.seen y) z
            (((log, refl), λ c i. absurd (nothing_in_empty_list c i)), (([], refl), λ c i. absurd (nothing_in_empty_list c i))))
            (λ (o : Contains v.others r). old.fits r (there v.mine v.others r o)) (theirs r h);
        known = λ r h c st. ⊎_elim
            (λ (z : no_client ≡ r). absurd (none_stood c (subst (λ (y : Record O R). StandsFor y c) (sym z) st)))
            (λ (o : Contains v.others r). old.known r (there v.mine v.others r o) c st) (theirs r h);
        holding = λ b y h. absurd (nothing_in_empty_list (note b y) (subst (λ (l : List (Note Y)). Contains l (note b y)) empty h));
      })
      (at_snoc mid right x j e))
      (λ r h p st. ⊎_elim
      (λ (z : no_client ≡ r). absurd (none_stood h (subst (λ (q : Record O R). StandsFor q h) (sym z) st)))
      (λ (o : IsPresent s.views r). (r, o, st, λ b m. m)) (was r p))
      (λ r h b p m. ⊎_elim
      (λ (z : no_client ≡ r). absurd (nothing_in_empty_list (h, b) (subst (λ (q : Record O R). Contains q.misses (h, b)) (sym z) m)))
      (λ (o : IsPresent s.views r). (r, o, m)) (was r p))
      (λ c. let a = sum_set (times_in_view c) s.views id v left at in let b = sum_by_push (times_in_view c) mid right in
      let d = two c in let e = sums c in let f : times_in_view c left ≡ times_standing c v.mine = zero-add (times_standing c v.mine) in
      omega arith)
      (seen_by k.seen_by_some.0 k.seen_by_some.1 k.seen_by_some.2)
    where
      two_views : List V
      two_views = set s.views id (first_record v) ++ right ∷ []

      at_right : get_elem? two_views (length (set s.views id (first_record v))) ≡ some right
      at_right = at_last (set s.views id (first_record v)) right (length (set s.views id (first_record v))) refl

      seen_by : (r : Record O R) → IsPresent s.views r → r.seen ≡ k.log → (q : Record O R) × IsPresent two_views q
          × (q.seen ≡ k.log)
      seen_by r (i, x, e, h) all = dite (ℕ_discrete i id)
          (λ z. let one : x ≡ v = some-injective x v
          (sym e ∙ subst (λ (j : ℕ). get_elem? s.views j ≡ some v) (sym z) at) in
          ⊎_elim
          (λ (m : v.mine ≡ r). (
            r,
            (
              id,
              first_record v,
              at_longer (set s.views id (first_record v)) (right ∷ []) id (first_record v)
                  (at_new s.views id v (first_record v) at),
              subst (λ (q : Record O R). Contains (records (first_record v)) q)
                  m (here v.mine []),
            ),
            all,
          ))
          (λ (o : Contains v.others r). (r, (length (set s.views id (first_record v)), right, at_right, keep r o), all))
          (cons_cases v.mine v.others r (subst (λ (q : V). Contains (records q) r) one h)))
          (λ nz. (
            r,
            (
              i,
              x,
              at_longer (set s.views id (first_record v)) (right ∷ []) i x
                  (set_else s.views id i (first_record v) nz ∙ e),
              h,
            ),
            all,
          ))

  split_kept : (s : State S V) (k : Invariant s) (id : ℕ) (v : V) → StandsFor v.mine v.mine.number
      → get_elem? s.views id ≡ some v
      → Invariant record {
        words = s.words;
        homes = s.homes;
        views = set s.views id (first_record v) ++ view_for v.start v.clients v.others ∷ [];
      }
  split_kept s k id v stands at = cut v.others refl
    where
      cut : (rs : List (Record O R)) → v.others ≡ rs
          → Invariant record {
            words = s.words;
            homes = s.homes;
            views = set s.views id (first_record v) ++ view_for v.start v.clients rs ∷ [];
          }
      cut [] e =
          cut_kept s k id v (idle_view v.start v.clients) stands at refl refl refl (λ r h. inl (only no_client r h))
          (λ r h. absurd (nothing_in_empty_list r (subst (λ (l : List (Record O R)). Contains l r) e h)))
          (λ c. sym (ap (sum_by (times_standing c)) e))
      cut (r ∷ rs) e =
          cut_kept s k id v (view_for v.start v.clients (r ∷ rs)) stands at refl refl refl
          (λ q h. inr (subst (λ (l : List (Record O R)). Contains l q) (sym e) h))
          (λ q h. subst (λ (l : List (Record O R)). Contains l q) e h) (λ c. sym (ap (sum_by (times_standing c)) e))

  abbrev M : Type 0
  M = Me S V

  -- The requirements of the table's calls: the history of the invariant is one of the map that the view of a client
  -- knows.
  history_of : (s : State S V) (k : Invariant s) (id : ℕ) (v : V) → get_elem? s.views id ≡ some v
      → StandsFor v.mine v.mine.number → IsHistory answer v.start v.clients k.log
  history_of s k id v at stands =
      let sum = stood_of v.mine.number v v.mine (here v.mine v.others) in
      let same = (k.each_view id v at).same_map v.mine.number (omega arith) in (
        subst (λ (x : X). IsLegal answer x k.log) (sym same.0) k.legal,
        λ e c. subst (λ (m : ℕ). e.client < m) (sym same.1) (k.clients_are_known e c),
      )

  pub looks : (slots id : ℕ) (me : M) (b : ℕ) → StandsFor me.0.mine me.0.mine.number
      → Allows Invariant slots id me b (λ x. x) (ReadsHistory answer (step slots b 0 0 none) me)
  looks slots id me b stands s k slot_count at small =
      let v : V = me.0 in
      let old = k.each_view id v at in (
        with_history v k.log,
        keeps,
        tt,
        subst (λ (l : List ℕ). Invariant record
            { words = l; homes = s.homes; views = set s.views id (with_history v k.log) })
            (sym (set-get_or s.words b 0)) (looked_kept s k id v at),
        (k.log, refl, history_of s k id v at stands, λ r h. let f = (old.fits r h).0 in (f.0, f)),
      )

  pub gathers : (slots id : ℕ) (me : M) (b : ℕ) (q : Record O R) → StandsFor me.0.mine me.0.mine.number
      → me.0.others ≡ q ∷ [] → Allows Invariant slots id me b (λ x. x) (MergesRecords answer (step slots b 0 0 none) me)
  gathers slots id me b q stands two s k slot_count at small =
      let v : V = me.0 in
      let g = gathered_kept s k id v q at two in (
        merged v q k.log,
        keeps,
        tt,
        subst (λ (l : List ℕ). Invariant record { words = l; homes = s.homes; views = set s.views id (merged v q k.log) })
            (sym (set-get_or s.words b 0)) g.0,
        λ q' two'. let same : q ≡ q' = cc in
            subst (λ (x : Record O R). MergesWith answer x me (merged v q k.log, me.1)) same
            (k.log, refl, history_of s k id v at stands, g.1, g.2, g.3, g.4),
      )

  pub joins : (id : ℕ) (v : V) (other : ℕ) (w spent : V) → StandsFor v.mine v.mine.number → spent.mine ≡ no_client
      → spent.others ≡ [] → spent.holds ≡ [] → w.holds ≡ [] → Joins Invariant id v other w (joined_views v w) spent
  joins id v other w spent stands empty_slots lone empty free s k at apart there_is =
      joined_kept s k id v other w spent stands empty_slots lone empty free at apart
      (sym (set_else s.views id other (joined_views v w) apart) ∙ there_is)

  pub splits : (id : ℕ) (v : V) → StandsFor v.mine v.mine.number
      → Splits Invariant id v (first_record v) (view_for v.start v.clients v.others)
  splits id v stands s k at = split_kept s k id v stands at
