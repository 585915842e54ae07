-- Each step preserves the invariant.
use Rattle.std.proofs.Common.{◌≡◌, ◌≢◌, ◌⊎◌, ℕ, zero, suc, ◌+◌, ◌<◌, ◌≤◌, List, [], ◌∷◌, ◌++◌, map, length, set, refl}
use Rattle.std.proofs.Common.{sym, ap, ◌∙◌, subst, inl, inr, ⊎_elim, arith, eq-eqb, ne_eqb, eqb, Bool, ◌-◌, fold}
use Rattle.std.proofs.Common.{Contains, get_or-set_same, get_or-set_other}
use Rattle.std.specs.Prelude.{slice_index}
use mathlib.Core.Option.{Option, none, some, some-ne-none, some-injective}
use mathlib.Core.Logic.{dite}
use native.Mathlib.Decide.{ℕ_discrete}
use lib.ListN.{get_elem?}
use prog.Atomic.{either}
use Rattle.std.proofs.Math.ListN.{length-set}
use Rattle.std.proofs.lemmas.List.{set-get_or}
use Rattle.std.proofs.lemmas.List.Elements.{Contains-push_cases}
use Rattle.atomic_table.specs.Table.{State, Me, step, stepped, Allows}
use Rattle.atomic_table.specs.Table.Act.{keeps, takes, gives}
use Rattle.atomic_table.proofs.Lists.{at_set, set_here, set_else}
use Rattle.moc_shared.specs.declared.record.Call.{Call}
use Rattle.moc_shared.specs.declared.record.Record.{Record}
use Rattle.moc_shared.specs.declared.record.Note.{Note}
use Rattle.moc_shared.specs.declared.record.View.{View}
use Rattle.moc_shared.specs.History.{call_by, IsConsistent, StandsFor, times_standing, state_after, IsLegal, IsHistory}
use Rattle.moc_shared.specs.Seats.{table_index, note}
use Rattle.moc_shared.specs.Private.Invariant.{IsSpare, records, IsPresent, times_in_view, IsFree, SomeHolds, Holding, IsConsistentView}
use Rattle.moc_shared.specs.Private.Invariant.{TableInvariant, parts_of_notes, IsSingleClient}
use Rattle.moc_shared.specs.Private.Seats.{IsCarried}
use Rattle.moc_shared.specs.Private.OperationEffects.{HasEffect}
use Rattle.moc_shared.specs.Private.StepEffects.{with_part, with_miss, with_holds, after_call, rest_of_list, TakesOrMisses, TakesPart, GivesPart, EndsWithCall, CallTakesEffect}
use Rattle.moc_shared.proofs.Basics.{here, there, nothing_in_empty_list, only, cons_cases, sum_set_same, stands_by, stood_with_call}
use Rattle.moc_shared.proofs.Basics.{fits_longer, fits_with_call, starts_itself, result_with, legal_with}
use Rattle.moc_shared.proofs.DistinctClients.{stood_of, one_view, one_record, present_cases}

-- different parts have different words and slots
pub other_table_index : (b' b : ℕ) → b' ≢ b → table_index b' ≢ table_index b
other_table_index b' b ne e = ne (omega arith)

-- the word of a part is not a spare word
spare_words_unchanged : (words : List ℕ) (b x : ℕ) → ((k : ℕ) → IsSpare k → slice_index words k ≡ 0) → (k : ℕ) → IsSpare k → slice_index (set words (table_index b) x) k ≡ 0
spare_words_unchanged words b x zeros k spare = get_or-set_other words (table_index b) k x 0 (λ e. spare b (sym e)) ∙ zeros k spare

module _ {S X O R Y : Type 0} (n : ℕ) (content : S → Y) (part : ℕ → X → Y) (answer : X → O → X × R)
    (valid : X → Type 0) (start : X) (clients : ℕ) where
  abbrev V : Type 0
  V = View X O R Y

  abbrev Invariant : State S V → Type 0
  Invariant s = TableInvariant n content part answer valid start clients s

  abbrev Held : X → List ℕ → List (Option S) → V → ℕ → Y → Type 0
  Held set words homes v b y = Holding {S = S} n content part answer valid start clients set words homes v b y

  abbrev FitsIn : List (Call O R) → List ℕ → List (Option S) → V → Type 0
  FitsIn log words homes v = IsConsistentView n content part answer valid start clients log words homes v

  -- the relation between the records of the new view and those of the old one
  abbrev Grows : List V → V → V → Type 0
  Grows views v w =
      (r' : Record O R) → Contains (records w) r' → (r : Record O R) × Contains (records v) r
      × ((h b : ℕ) → Contains r.marks (h, b) → Contains r'.marks (h, b))
      × ((c : ℕ) → StandsFor r' c → StandsFor r c)
      × ((h b : ℕ) → Contains r'.misses (h, b) → Contains r.misses (h, b)
      ⊎ ((q : Record O R) → IsPresent views q → StandsFor q h → Contains q.marks (h, b)))

  -- each record after the step, with the record before
  abbrev Was : List V → Record O R → Type 0
  Was views r' = (r : Record O R) × IsPresent views r
      × ((h b : ℕ) → Contains r.marks (h, b) → Contains r'.marks (h, b))
      × ((c : ℕ) → StandsFor r' c → StandsFor r c)
      × ((h b : ℕ) → Contains r'.misses (h, b) → Contains r.misses (h, b)
      ⊎ ((q : Record O R) → IsPresent views q → StandsFor q h → Contains q.marks (h, b)))

  was : (views : List V) (id : ℕ) (v w : V) → get_elem? views id ≡ some v → Grows views v w → (r' : Record O R)
      → IsPresent (set views id w) r' → Was views r'
  was views id v w at grows r' p =
      ⊎_elim
      (λ (h : Contains (records w) r'). let g = grows r' h in (g.0, (id, v, at, g.1), g.2, g.3, g.4))
      (λ (o : IsPresent views r'). (r', o, (λ h b m. m), (λ c m. m), (λ h b m. inl m)))
      (present_cases views id w r' p)

  -- one view was replaced
  one_moved : (s : State S V) (k : Invariant s) (id : ℕ) (v w : V) → get_elem? s.views id ≡ some v
      → (words : List ℕ) (homes : List (Option S)) (log : List (Call O R))
      → IsLegal answer start log
      → ((r : Record O R) × IsPresent (set s.views id w) r × (r.seen ≡ log))
      → valid (state_after answer start log)
      → ((e : Call O R) → Contains log e → e.client < clients)
      → length words ≡ table_index n → length homes ≡ table_index n → ((k : ℕ) → IsSpare k → slice_index words k ≡ 0)
      → ((b : ℕ) → b < n → IsFree content part (state_after answer start log) words homes b ⊎ SomeHolds (set s.views id w) b)
      → FitsIn log words homes w
      → ((j : ℕ) (u : V) → j ≢ id → get_elem? s.views j ≡ some u → FitsIn log words homes u)
      → Grows s.views v w
      → ((c : ℕ) → times_in_view c w ≡ times_in_view c v)
      → Invariant record { words = words; homes = homes; views = set s.views id w }
  one_moved s k id v w at words homes log legal seen_by_some set_is_valid clients_are_known word_count slot_count spare parts mine others grows same = record {
    log = log;
    legal = legal;
    seen_by_some = seen_by_some;
    set_is_valid = set_is_valid;
    clients_are_known = clients_are_known;
    word_count = word_count;
    slot_count = slot_count;
    spare = spare;
    each_part = parts;
    each_view = λ j u e. ⊎_elim
        (λ (t : (j ≡ id) × (w ≡ u)). subst (FitsIn log words homes) t.1 mine)
        (λ (t : (j ≢ id) × (get_elem? s.views j ≡ some u)). others j u t.0 t.1)
        (at_set s.views id j w u e);
    misses_are_marks = λ r q pr pq h b m st.
        let a = was s.views id v w at grows r pr in
        let z = was s.views id v w at grows q pq in
        z.2 h b (⊎_elim (λ (x : Contains a.0.misses (h, b)). k.misses_are_marks a.0 z.0 a.1 z.1 h b x (z.3 h st))
        (λ (f : (y : Record O R) → IsPresent s.views y → StandsFor y h → Contains y.marks (h, b)). f z.0 z.1
        (z.3 h st)) (a.4 h b m));
    clients_are_distinct = λ c. subst (λ (m : ℕ). m ≤ 1) (sym (sum_set_same (times_in_view c) s.views id v w at (same c))) (k.clients_are_distinct c);
  }

  -- part b is not held by the view
  abbrev Free_of : V → ℕ → Type 0
  Free_of v b = (b' : ℕ) (y : Y) → Contains v.holds (note b' y) → b' ≢ b

  held_apart : (set_is : X) (words : List ℕ) (homes : List (Option S)) (u : V) (b x : ℕ) (h : Option S) (b' : ℕ) (y : Y)
      → Held set_is words homes u b' y → b' ≢ b → Held set_is (set words (table_index b) x) (set homes (table_index b) h) u b' y
  held_apart set_is words homes u b x h b' y k ne = record {
    within = k.within;
    word_is = get_or-set_other words (table_index b) (table_index b') x 0 (other_table_index b' b ne) ∙ k.word_is;
    out = set_else homes (table_index b) (table_index b') h (other_table_index b' b ne) ∙ k.out;
    noted = k.noted;
    marked = k.marked;
    stands = k.stands;
  }

  fits_apart : (log : List (Call O R)) (words : List ℕ) (homes : List (Option S)) (u : V) (b x : ℕ) (h : Option S)
      → FitsIn log words homes u → Free_of u b → FitsIn log (set words (table_index b) x) (set homes (table_index b) h) u
  fits_apart log words homes u b x h f apart = record {
    same_map = f.same_map;
    fits = f.fits;
    known = f.known;
    holding = λ b' y i. held_apart (state_after answer start log) words homes u b x h b' y (f.holding b' y i) (apart b' y i);
  }

  free_apart : (set_is : X) (words : List ℕ) (homes : List (Option S)) (b x : ℕ) (h : Option S) (b' : ℕ) → b' ≢ b
      → IsFree content part set_is words homes b' → IsFree content part set_is (set words (table_index b) x) (set homes (table_index b) h) b'
  free_apart set_is words homes b x h b' ne f =
      (get_or-set_other words (table_index b) (table_index b') x 0 (other_table_index b' b ne) ∙ f.0, (f.1.0, set_else homes (table_index b) (table_index b') h (other_table_index b' b ne) ∙ f.1.1, f.1.2))

  at_new : (views : List V) (id : ℕ) (v w : V) → get_elem? views id ≡ some v → get_elem? (set views id w) id ≡ some w
  at_new [] id v w e = absurd (some-ne-none v (sym e))
  at_new (x ∷ xs) zero v w e = refl
  at_new (x ∷ xs) (suc id) v w e = at_new xs id v w e

  -- a part that was held is still held if the new view holds it whenever the old one did
  still_held : (views : List V) (id : ℕ) (v w : V) (b : ℕ) → get_elem? views id ≡ some v
      → ((y : Y) → Contains v.holds (note b y) → (z : Y) × Contains w.holds (note b z)) → SomeHolds views b
      → SomeHolds (set views id w) b
  still_held views id v w b at keep (i, u, y, e, h) = dite (ℕ_discrete i id)
      (λ same. let one : u ≡ v = some-injective u v
      (sym e ∙ subst (λ (k : ℕ). get_elem? views k ≡ some v) (sym same) at) in
      let z = keep y (subst (λ (x : V). Contains x.holds (note b y)) one h) in
      (id, w, z.0, at_new views id v w at, z.1))
      (λ other. (i, u, y, set_else views id i w other ∙ e, h))

  only_mine : (v : V) (r : Record O R) → v.others ≡ [] → Contains (records v) r → v.mine ≡ r
  only_mine v r clients_are_distinct h = only v.mine r (subst (λ (l : List (Record O R)). Contains (v.mine ∷ l) r) clients_are_distinct h)

  -- some record has still seen the whole history if the records of the new view have seen what the old ones had seen
  still_shown : (s : State S V) (k : Invariant s) (id : ℕ) (v w : V) → get_elem? s.views id ≡ some v
      → ((r : Record O R) → Contains (records v) r → (q : Record O R) × Contains (records w) q × (q.seen ≡ r.seen))
      → (r : Record O R) × IsPresent (set s.views id w) r × (r.seen ≡ k.log)
  still_shown s k id v w at keep = go k.seen_by_some.0 k.seen_by_some.1 k.seen_by_some.2
    where
      go : (r : Record O R) → IsPresent s.views r → r.seen ≡ k.log → (q : Record O R) × IsPresent (set s.views id w) q
          × (q.seen ≡ k.log)
      go r (i, u, e, h) all = dite (ℕ_discrete i id)
          (λ same. let one : u ≡ v = some-injective u v
          (sym e ∙ subst (λ (j : ℕ). get_elem? s.views j ≡ some v) (sym same) at) in
          let q = keep r (subst (λ (x : V). Contains (records x) r) one h) in
          (q.0, (id, w, at_new s.views id v w at, q.1), q.2 ∙ all))
          (λ other. (r, (i, u, set_else s.views id i w other ∙ e, h), all))

  -- the same for views of one record that has seen the same history
  one_shown : (s : State S V) (k : Invariant s) (id : ℕ) (v w : V) → get_elem? s.views id ≡ some v → v.others ≡ []
      → w.mine.seen ≡ v.mine.seen → (r : Record O R) × IsPresent (set s.views id w) r × (r.seen ≡ k.log)
  one_shown s k id v w at clients_are_distinct same =
      still_shown s k id v w at
      (λ r h. (w.mine, here w.mine w.others, same ∙ ap (λ (q : Record O R). q.seen) (only_mine v r clients_are_distinct h)))

  -- the word of a held part is not 0
  never_zero : (set_is : X) (words : List ℕ) (homes : List (Option S)) (u : V) (b b' : ℕ) (y : Y)
      → slice_index words (table_index b) ≡ 0 → Held set_is words homes u b' y → b' ≢ b
  never_zero set_is words homes u b b' y z k e = let w = k.word_is in
      let s : slice_index words (table_index b') ≡ slice_index words (table_index b) = ap (λ (j : ℕ). slice_index words (table_index j)) e in absurd (omega arith)

  took_kept : (s : State S V) (k : Invariant s) (id : ℕ) (v : V) (b : ℕ) (x : S) (mark : ℕ) → get_elem? s.views id ≡ some v
      → v.others ≡ [] → StandsFor v.mine v.mine.number → mark ≡ suc v.mine.number → b < n → slice_index s.words (table_index b) ≡ 0
      → get_elem? s.homes (table_index b) ≡ some (some x) → content x ≡ part b (state_after answer start k.log)
      → Invariant record
      { words = set s.words (table_index b) mark; homes = set s.homes (table_index b) none; views = set s.views id (with_part v b (content x)) }
  took_kept s k id v b x mark at clients_are_distinct stands mark_is within zero_is home is =
      let w = with_part v b (content x) in
      let log = k.log in
      let A = state_after answer start log in
      let old = k.each_view id v at in
      let word_count = k.word_count in
      let slot_count = k.slot_count in
      let new : Held A (set s.words (table_index b) mark) (set s.homes (table_index b) none) w b (content x) = record {
        within = within;
        word_is = get_or-set_same s.words (table_index b) mark 0 (omega arith) ∙ mark_is;
        out = set_here s.homes (table_index b) none (omega arith);
        noted = is;
        marked = here (v.mine.number, b) v.mine.marks;
        stands = stands;
      } in
      let older = λ (b' : ℕ) (y : Y) (h : Contains v.holds (note b' y)). let o = old.holding b' y h in
      let m : Held A (set s.words (table_index b) mark) (set s.homes (table_index b) none) v b' y =
      held_apart A s.words s.homes v b mark none b' y o (never_zero A s.words s.homes v b b' y zero_is o) in m in
      one_moved s k id v w at (set s.words (table_index b) mark) (set s.homes (table_index b) none) log k.legal (one_shown s k id v w at clients_are_distinct refl)
      k.set_is_valid k.clients_are_known (length-set s.words (table_index b) mark ∙ word_count) (length-set s.homes (table_index b) none ∙ slot_count) (spare_words_unchanged s.words b mark k.spare)
      (λ b' l. dite (ℕ_discrete b' b)
      (λ e. inr (
        id,
        w,
        content x,
        at_new s.views id v w at,
        subst (λ (j : ℕ). Contains w.holds (note j (content x))) (sym e)
            (here (note b (content x)) v.holds),
      ))
      (λ ne. ⊎_elim (λ f. inl (free_apart A s.words s.homes b mark none b' ne f))
      (λ h. inr (still_held s.views id v w b' at (λ y c. (y, there (note b (content x)) v.holds (note b' y) c)) h))
      (k.each_part b' l)))
      record {
        same_map = old.same_map;
        fits = λ r h. subst (λ (q : Record O R). IsConsistent log q × IsConsistent q.seen q) (only_mine w r clients_are_distinct h)
            (old.fits v.mine (here v.mine v.others));
        known = λ r h c st. old.known v.mine (here v.mine v.others) c
            (subst (λ (q : Record O R). StandsFor q c) (sym (only_mine w r clients_are_distinct h)) st);
        holding = λ b' y h. ⊎_elim
            (λ (e : note b (content x) ≡ note b' y). subst
            (λ (t : Note Y). Held A (set s.words (table_index b) mark) (set s.homes (table_index b) none) w t.part t.content) e new)
            (λ (c : Contains v.holds (note b' y)). let m = older b' y c in
            record {
              within = m.within;
              word_is = m.word_is;
              out = m.out;
              noted = m.noted;
              marked = there (v.mine.number, b) v.mine.marks (v.mine.number, b') m.marked;
              stands = m.stands;
            })
            (cons_cases (note b (content x)) v.holds (note b' y) h);
      }
      (λ j u ne e. let f = k.each_view j u e in
      fits_apart log s.words s.homes u b mark none f
      (λ b' y h. never_zero A s.words s.homes u b b' y zero_is (f.holding b' y h)))
      (λ r h. (
        v.mine,
        here v.mine v.others,
        (λ g d m. subst (λ (q : Record O R). Contains q.marks (g, d)) (only_mine w r clients_are_distinct h)
            (there (v.mine.number, b) v.mine.marks (g, d) m)),
        (λ c st. subst (λ (q : Record O R). StandsFor q c) (sym (only_mine w r clients_are_distinct h)) st),
        (λ g d m. inl (subst (λ (q : Record O R). Contains q.misses (g, d)) (sym (only_mine w r clients_are_distinct h)) m)),
      ))
      (λ c. refl)

  -- the holder of a part
  holder : (s : State S V) (k : Invariant s) (b h : ℕ) → b < n → slice_index s.words (table_index b) ≡ suc h → (i : ℕ) × (u : V) × (y : Y)
      × (get_elem? s.views i ≡ some u) × Contains u.holds (note b y) × (h ≡ u.mine.number)
      × Held (state_after answer start k.log) s.words s.homes u b y
  holder s k b h within is = ⊎_elim
      (λ (f : IsFree content part (state_after answer start k.log) s.words s.homes b). let z = f.0 in absurd (omega arith))
      (λ (t : SomeHolds s.views b). let d = (k.each_view t.0 t.1 t.3).holding b t.2 t.4 in let w = d.word_is in
      (t.0, t.1, t.2, t.3, t.4, omega arith, d))
      (k.each_part b within)

  missed_kept : (s : State S V) (k : Invariant s) (id : ℕ) (v : V) (b h : ℕ) → get_elem? s.views id ≡ some v → v.others ≡ []
      → b < n → slice_index s.words (table_index b) ≡ suc h → ((y : Y) → ¬ Contains v.holds (note b y))
      → Invariant record
      { words = set s.words (table_index b) (slice_index s.words (table_index b)); homes = s.homes; views = set s.views id (with_miss v h b) }
      × (h < clients) × ¬ StandsFor v.mine h
  missed_kept s k id v b h at clients_are_distinct within is apart =
      let w = with_miss v h b in
      let log = k.log in
      let A = state_after answer start log in
      let old = k.each_view id v at in
      let o = holder s k b h within is in
      let u = o.1 in
      let stands : StandsFor u.mine h = subst (λ (c : ℕ). StandsFor u.mine c) (sym o.5) o.6.stands in
      let there_stands : IsPresent s.views u.mine = (o.0, u, o.3, here u.mine u.others) in
      let marked : Contains u.mine.marks (h, b) =
      subst (λ (c : ℕ). Contains u.mine.marks (c, b)) (sym o.5) o.6.marked in
      let not_mine : StandsFor v.mine h → ⊥ = λ st.
      let a = stood_of h v v.mine (here v.mine v.others) in
      let z = stood_of h u u.mine (here u.mine u.others) in
      let same : o.0 ≡ id = one_view h s.views id o.0 v u (k.clients_are_distinct h) at o.3 (omega arith) (omega arith) in
      let one : u ≡ v = some-injective u v (sym o.3 ∙ subst (λ (j : ℕ). get_elem? s.views j ≡ some v) (sym same) at) in
      apart o.2 (subst (λ (x : V). Contains x.holds (note b o.2)) one o.4) in
      let still : set s.words (table_index b) (slice_index s.words (table_index b)) ≡ s.words = set-get_or s.words (table_index b) 0 in (
        subst (λ (l : List ℕ). Invariant record { words = l; homes = s.homes; views = set s.views id w }) (sym still)
            (one_moved s k id v w at s.words s.homes log k.legal (one_shown s k id v w at clients_are_distinct refl) k.set_is_valid k.clients_are_known
            k.word_count k.slot_count k.spare
            (λ b' l. ⊎_elim (λ f. inl f) (λ g. inr (still_held s.views id v w b' at (λ y c. (y, c)) g))
            (k.each_part b' l))
            record {
              same_map = old.same_map;
              fits = λ r g. subst (λ (q : Record O R). IsConsistent log q × IsConsistent q.seen q) (only_mine w r clients_are_distinct g)
                  (old.fits v.mine (here v.mine v.others));
              known = λ r g c st. old.known v.mine (here v.mine v.others) c
                  (subst (λ (q : Record O R). StandsFor q c) (sym (only_mine w r clients_are_distinct g)) st);
              holding = λ b' y g. let m = old.holding b' y g in
                  record {
                    within = m.within;
                    word_is = m.word_is;
                    out = m.out;
                    noted = m.noted;
                    marked = m.marked;
                    stands = m.stands;
                  };
            }
            (λ j x ne e. k.each_view j x e)
            (λ r g. (
              v.mine,
              here v.mine v.others,
              (λ c d m. subst (λ (q : Record O R). Contains q.marks (c, d)) (only_mine w r clients_are_distinct g) m),
              (λ c st. subst (λ (q : Record O R). StandsFor q c) (sym (only_mine w r clients_are_distinct g)) st),
              (λ c d m. ⊎_elim
                  (λ (e : (h, b) ≡ (c, d)). inr
                  (λ q p st. subst (λ (z : ℕ × ℕ). Contains q.marks (z.0, z.1)) e
                  (subst (λ (z : Record O R). Contains z.marks (h, b))
                  (one_record h s.views u.mine q (k.clients_are_distinct h) there_stands p stands
                  (subst (λ (z : ℕ × ℕ). StandsFor q z.0) (sym e) st)) marked)))
                  (λ (t : Contains v.mine.misses (c, d)). inl t)
                  (cons_cases (h, b) v.mine.misses (c, d)
                  (subst (λ (q : Record O R). Contains q.misses (c, d)) (sym (only_mine w r clients_are_distinct g)) m))),
            ))
            (λ c. refl)),
        (k.each_view o.0 u o.3).known u.mine (here u.mine u.others) h stands,
        not_mine,
      )

  -- no two views hold the same part
  not_both : (s : State S V) (k : Invariant s) (id j : ℕ) (v u : V) (b : ℕ) (y z : Y) → get_elem? s.views id ≡ some v
      → get_elem? s.views j ≡ some u → j ≢ id → Contains v.holds (note b y) → Contains u.holds (note b z) → ⊥
  not_both s k id j v u b y z at e ne hv hu =
      let dv = (k.each_view id v at).holding b y hv in
      let du = (k.each_view j u e).holding b z hu in
      let wv = dv.word_is in
      let wu = du.word_is in
      let c : ℕ = v.mine.number in
      let same : u.mine.number ≡ c = omega arith in
      let sv : 0 < times_standing c v.mine = dv.stands in
      let su : 0 < times_standing c u.mine = subst (λ (x : ℕ). 0 < times_standing x u.mine) same du.stands in
      let pv = stood_of c v v.mine (here v.mine v.others) in
      let pu = stood_of c u u.mine (here u.mine u.others) in
      ne (one_view c s.views id j v u (k.clients_are_distinct c) at e (omega arith) (omega arith))

  gave_kept : (s : State S V) (k : Invariant s) (id : ℕ) (v : V) (b : ℕ) (x : S) (notes : List (Note Y))
      → get_elem? s.views id ≡ some v → v.others ≡ [] → v.holds ≡ note b (content x) ∷ notes
      → ((y : Y) → ¬ Contains notes (note b y))
      → Invariant record
      { words = set s.words (table_index b) 0; homes = set s.homes (table_index b) (some x); views = set s.views id (with_holds v notes) }
  gave_kept s k id v b x notes at clients_are_distinct held apart =
      let w = with_holds v notes in
      let log = k.log in
      let A = state_after answer start log in
      let old = k.each_view id v at in
      let word_count = k.word_count in
      let slot_count = k.slot_count in
      let in_old =
      λ (t : Note Y) (h : Contains notes t). subst (λ (l : List (Note Y)). Contains l t) (sym held)
      (there (note b (content x)) notes t h) in
      let had : Contains v.holds (note b (content x)) =
      subst (λ (l : List (Note Y)). Contains l (note b (content x))) (sym held) (here (note b (content x)) notes) in
      let now = old.holding b (content x) had in
      let within = now.within in
      let others_apart = λ (b' : ℕ) (y : Y) (h : Contains notes (note b' y)). let m : b' ≢ b =
      (λ e. apart y (subst (λ (j : ℕ). Contains notes (note j y)) e h)) in m in
      one_moved s k id v w at (set s.words (table_index b) 0) (set s.homes (table_index b) (some x)) log k.legal
      (one_shown s k id v w at clients_are_distinct refl) k.set_is_valid k.clients_are_known (length-set s.words (table_index b) 0 ∙ word_count)
      (length-set s.homes (table_index b) (some x) ∙ slot_count) (spare_words_unchanged s.words b 0 k.spare)
      (λ b' l. dite (ℕ_discrete b' b)
      (λ e. inl
      (subst (λ (j : ℕ). IsFree content part A (set s.words (table_index b) 0) (set s.homes (table_index b) (some x)) j) (sym e)
      (get_or-set_same s.words (table_index b) 0 0 (omega arith), (x, set_here s.homes (table_index b) (some x) (omega arith), now.noted))))
      (λ ne. ⊎_elim (λ f. inl (free_apart A s.words s.homes b 0 (some x) b' ne f))
      (λ h. inr (still_held s.views id v w b' at
      (λ y c. ⊎_elim (λ (e : note b (content x) ≡ note b' y). absurd (ne (sym (ap (λ (t : Note Y). t.part) e))))
      (λ (t : Contains notes (note b' y)). (y, t))
      (cons_cases (note b (content x)) notes (note b' y)
      (subst (λ (l : List (Note Y)). Contains l (note b' y)) held c))) h))
      (k.each_part b' l)))
      record {
        same_map = old.same_map;
        fits = old.fits;
        known = old.known;
        holding = λ b' y h. let m =
            held_apart A s.words s.homes v b 0 (some x) b' y (old.holding b' y (in_old (note b' y) h))
            (others_apart b' y h) in
            record {
              within = m.within;
              word_is = m.word_is;
              out = m.out;
              noted = m.noted;
              marked = m.marked;
              stands = m.stands;
            };
      }
      (λ j u ne e. fits_apart log s.words s.homes u b 0 (some x) (k.each_view j u e)
      (λ b' y h same. not_both s k id j v u b (content x) y at e ne had
      (subst (λ (i : ℕ). Contains u.holds (note i y)) same h)))
      (λ r h. (r, h, (λ g d m. m), (λ c st. st), (λ g d m. inl m)))
      (λ c. refl)

  part_in : (ts : List (Note Y)) (b : ℕ) (y : Y) → Contains ts (note b y) → Contains (parts_of_notes ts) b
  part_in [] b y h = absurd (nothing_in_empty_list (note b y) h)
  part_in (t ∷ ts) b y h = ⊎_elim
      (λ (e : t ≡ note b y). subst (λ (c : ℕ). Contains (parts_of_notes (t ∷ ts)) c) (ap (λ (z : Note Y). z.part) e)
      (here t.part (parts_of_notes ts)))
      (λ (c : Contains ts (note b y)). there t.part (parts_of_notes ts) b (part_in ts b y c))
      (cons_cases t ts (note b y) h)

  note_in : (ts : List (Note Y)) (b : ℕ) → Contains (parts_of_notes ts) b → (y : Y) × Contains ts (note b y)
  note_in [] b h = absurd (nothing_in_empty_list b h)
  note_in (t ∷ ts) b h = ⊎_elim
      (λ (e : t.part ≡ b). (t.content, subst (λ (c : ℕ). Contains (t ∷ ts) (note c t.content)) e (here t ts)))
      (λ (c : Contains (parts_of_notes ts) b). let r = note_in ts b c in (r.0, there t ts (note b r.0) r.1))
      (cons_cases t.part (parts_of_notes ts) b h)

  ended_kept : (s : State S V) (k : Invariant s) (id : ℕ) (v : V) (b : ℕ) (x : S) (notes : List (Note Y)) (op : O)
      (reply : R) → get_elem? s.views id ≡ some v → v.others ≡ [] → StandsFor v.mine v.mine.number
      → parts_of_notes v.holds ≡ b ∷ parts_of_notes notes → ¬ Contains (parts_of_notes notes) b
      → HasEffect part answer valid op reply v.holds (note b (content x) ∷ notes)
      → Invariant record {
        words = set s.words (table_index b) 0;
        homes = set s.homes (table_index b) (some x);
        views = set s.views id (after_call v k.log (call_by v.mine.number op reply) notes);
      }
  ended_kept s k id v b x notes op reply at clients_are_distinct stands same_parts apart done =
      let e : Call O R = call_by v.mine.number op reply in
      let log = k.log in
      let log' = log ++ e ∷ [] in
      let w = after_call v log e notes in
      let A = state_after answer start log in
      let old = k.each_view id v at in
      let word_count = k.word_count in
      let slot_count = k.slot_count in
      let did = done A k.set_is_valid (λ c y h. (old.holding c y h).noted) in
      let set_is : state_after answer start log' ≡ (answer A op).0 = result_with answer start log e in
      let in_old = λ (c : ℕ) (h : Contains (b ∷ parts_of_notes notes) c). let r : (y : Y) × Contains v.holds (note c y) =
      note_in v.holds c (subst (λ (l : List ℕ). Contains l c) (sym same_parts) h) in r in
      let new_of_union = λ (c : ℕ) (y : Y) (h : Contains v.holds (note c y)). let r : Contains (b ∷ parts_of_notes notes) c =
      subst (λ (l : List ℕ). Contains l c) same_parts (part_in v.holds c y h) in r in
      let had = in_old b (here b (parts_of_notes notes)) in
      let now = old.holding b had.0 had.1 in
      let within = now.within in
      let unheld = λ (c : ℕ) (z : slice_index s.words (table_index c) ≡ 0). let r : ¬ Contains (parts_of_notes v.holds) c =
      (λ h. let q = note_in v.holds c h in let d = (old.holding c q.0 q.1).word_is in absurd (omega arith)) in r in
      one_moved s k id v w at (set s.words (table_index b) 0) (set s.homes (table_index b) (some x)) log'
      (legal_with answer start log e k.legal (sym did.0))
      (w.mine, (id, w, at_new s.views id v w at, here w.mine w.others), refl)
      (subst valid (sym set_is) did.3)
      (λ q h. ⊎_elim (λ (o : Contains log q). k.clients_are_known q o)
      (λ (t : e ≡ q). subst (λ (z : Call O R). z.client < clients) t
      (old.known v.mine (here v.mine v.others) v.mine.number stands)) (Contains-push_cases log e q h))
      (length-set s.words (table_index b) 0 ∙ word_count) (length-set s.homes (table_index b) (some x) ∙ slot_count) (spare_words_unchanged s.words b 0 k.spare)
      (λ c l. subst
      (λ (a : X). IsFree content part a (set s.words (table_index b) 0) (set s.homes (table_index b) (some x)) c ⊎ SomeHolds (set s.views id w) c)
      (sym set_is) (dite (ℕ_discrete c b)
      (λ q. inl
      (subst (λ (j : ℕ). IsFree content part (answer A op).0 (set s.words (table_index b) 0) (set s.homes (table_index b) (some x)) j) (sym q) (
        get_or-set_same s.words (table_index b) 0 0 (omega arith),
        (x, set_here s.homes (table_index b) (some x) (omega arith), did.1 b (content x) (here (note b (content x)) notes)),
      )))
      (λ ne. ⊎_elim
      (λ (f : IsFree content part A s.words s.homes c). let g = free_apart A s.words s.homes b 0 (some x) c ne f in
      inl (g.0, (g.1.0, g.1.1, g.1.2 ∙ sym (did.2 c (unheld c f.0)))))
      (λ (h : SomeHolds s.views c). inr (still_held s.views id v w c at
      (λ y i. ⊎_elim (λ (q : b ≡ c). absurd (ne (sym q))) (λ (t : Contains (parts_of_notes notes) c). note_in notes c t)
      (cons_cases b (parts_of_notes notes) c (new_of_union c y i))) h))
      (k.each_part c l))))
      record {
        same_map = λ c p. old.same_map c (subst (λ (m : ℕ). 0 < m) (same_sums c) p);
        fits = λ r h. subst (λ (q : Record O R). IsConsistent log' q × IsConsistent q.seen q) (only_mine w r clients_are_distinct h)
            (let f : IsConsistent log' w.mine = fits_with_call log e v.mine w.mine refl (starts_itself log')
            (old.fits v.mine (here v.mine v.others)).0 in (f, f));
        known = λ r h c st. old.known v.mine (here v.mine v.others) c
            (subst (λ (m : ℕ). 0 < m) (stood_with_call e v.mine log' c)
            (subst (λ (q : Record O R). StandsFor q c) (sym (only_mine w r clients_are_distinct h)) st));
        holding = λ c y h.
            let i : Contains (parts_of_notes notes) c = part_in notes c y h in
            let z = in_old c (there b (parts_of_notes notes) c i) in
            let m = held_apart A s.words s.homes v b 0 (some x) c z.0 (old.holding c z.0 z.1)
            (λ q. apart (subst (λ (j : ℕ). Contains (parts_of_notes notes) j) q i)) in
            record {
              within = m.within;
              word_is = m.word_is;
              out = m.out;
              noted = did.1 c y (there (note b (content x)) notes (note c y) h) ∙ ap (part c) (sym set_is);
              marked =
                  m.marked;
              stands =
                  subst (λ (j : ℕ). 0 < j) (sym (stood_with_call e v.mine log' v.mine.number)) m.stands;
            };
      }
      (λ j u ne q.
      let f = k.each_view j u q in
      let g = fits_apart log s.words s.homes u b 0 (some x) f
      (λ c y h same. not_both s k id j v u b had.0 y at q ne had.1
      (subst (λ (i : ℕ). Contains u.holds (note i y)) same h)) in
      record {
        same_map = f.same_map;
        fits = λ r h. let o = f.fits r h in (
          fits_longer log e r
              (λ d i same. let st : StandsFor r v.mine.number = subst (λ (c : ℕ). StandsFor r c) same (stands_by r d i) in
              let a = stood_of v.mine.number u r h in let z = stood_of v.mine.number v v.mine (here v.mine v.others) in
              ne (one_view v.mine.number s.views id j v u (k.clients_are_distinct v.mine.number) at q (omega arith) (omega arith))) o.0,
          o.1,
        );
        known = f.known;
        holding = λ c y h. let m = g.holding c y h in
            record {
              within = m.within;
              word_is = m.word_is;
              out = m.out;
              noted = m.noted
                  ∙ sym (did.2 c (λ i. let z = note_in v.holds c i in not_both s k id j v u c z.0 y at q ne z.1 h))
                  ∙ ap (part c) (sym set_is);
              marked = m.marked;
              stands = m.stands;
            };
      })
      (λ r h. (
        v.mine,
        here v.mine v.others,
        (λ g d m. subst (λ (q : Record O R). Contains q.marks (g, d)) (only_mine w r clients_are_distinct h) m),
        (λ c st. subst (λ (m : ℕ). 0 < m) (stood_with_call e v.mine log' c)
            (subst (λ (q : Record O R). StandsFor q c) (sym (only_mine w r clients_are_distinct h)) st)),
        (λ g d m. inl (subst (λ (q : Record O R). Contains q.misses (g, d)) (sym (only_mine w r clients_are_distinct h)) m)),
      ))
      (λ c. same_sums c)
    where
      same_sums : (c : ℕ) → times_in_view c (after_call v k.log (call_by v.mine.number op reply) notes) ≡ times_in_view c v
      same_sums c =
          ap (λ (m : ℕ). fold (λ (a : ℕ) (r : Record O R). a + times_standing c r) (0 + m) v.others)
          (stood_with_call (call_by v.mine.number op reply) v.mine [] c)

  abbrev M : Type 0
  M = Me S V

  abbrev Notes : Type 0
  Notes = List (Note Y)

  stands_in : (v : V) → StandsFor v.mine v.mine.number → 0 < times_in_view v.mine.number v
  stands_in v st = let a = stood_of v.mine.number v v.mine (here v.mine v.others) in omega arith

  -- the effect of a failed step on its seat
  abbrev Refused : M → ℕ → ℕ → V → Type 0
  Refused me b h w = let new : M = (w, me.1) in let misses_are_marks : M = (with_miss me.0 h b, me.1) in (new ≡ misses_are_marks)
      × (h < me.0.clients) × ¬ StandsFor me.0.mine h

  takes_there : (slots id : ℕ) (me : M) (b mark : ℕ) → b < n → IsSingleClient me.0 → mark ≡ suc me.0.mine.number
      → ((y : Y) → ¬ Contains me.0.holds (note b y))
      → Allows Invariant slots id me (table_index b) (λ x. either (eqb x 0) mark x)
      (TakesPart content part (step slots (table_index b) 0 mark none) me)
  takes_there slots id me b mark within one mark_is apart s k slot_count at small =
      let v : V = me.0 in
      let word : ℕ = slice_index s.words (table_index b) in
      dite (ℕ_discrete word 0)
      (λ hit. ⊎_elim
      (λ (f : IsFree content part (state_after answer start k.log) s.words s.homes b).
      let x : S = f.1.0 in
      let w : V = with_part v b (content x) in (
        w,
        takes (table_index b) x,
        f.1.1,
        subst (λ (t : Bool). Invariant (stepped s (table_index b) (either t mark word) id me.1 w (takes (table_index b) x))) (sym (eq-eqb word 0 hit))
            (took_kept s k id v b x mark at one.0 one.1 mark_is within hit f.1.1 f.1.2),
        (λ b' e. determined b' e word (w, (table_index b, x) ∷ me.1)
            ((λ z. (x, state_after answer start k.log, f.1.2, refl)), (λ h z. absurd (omega arith)))),
      ))
      (λ (t : SomeHolds s.views b). let d = ((k.each_view t.0 t.1 t.3).holding b t.2 t.4).word_is in absurd (omega arith))
      (k.each_part b within))
      (λ miss.
      let h : ℕ = word - 1 in
      let up : word ≡ suc h = omega arith in
      let m = missed_kept s k id v b h at one.0 within up apart in
      let w : V = with_miss v h b in (
        w,
        keeps,
        tt,
        subst (λ (t : Bool). Invariant (stepped s (table_index b) (either t mark word) id me.1 w keeps)) (sym (ne_eqb word 0 miss)) m.0,
        λ b' e. determined b' e word (w, me.1) (
          (λ z. absurd (miss z)),
          (λ g z. let same : h ≡ g = omega arith in
              subst (λ (j : ℕ). Refused me b j w) same (
                refl,
                subst (λ (c : ℕ). h < c) (sym ((k.each_view id v at).same_map v.mine.number (stands_in v one.1)).1)
                    m.1,
                m.2,
              )),
        ),
      ))
    where
      -- the word belongs to no other part
      determined : (b' : ℕ) → table_index b ≡ table_index b' → (previous : ℕ) (me' : M) → TakesOrMisses content part b me previous me'
          → TakesOrMisses content part b' me previous me'
      determined b' e previous me' t = let same : b ≡ b' = omega arith in
          subst (λ (j : ℕ). TakesOrMisses content part j me previous me') same t

  pub takes_part : (slots id : ℕ) (me : M) (i b mark : ℕ) → i ≡ table_index b → b < n → IsSingleClient me.0
      → mark ≡ suc me.0.mine.number → ((y : Y) → ¬ Contains me.0.holds (note b y))
      → Allows Invariant slots id me i (λ x. either (eqb x 0) mark x) (TakesPart content part (step slots i 0 mark none) me)
  takes_part slots id me i b mark at within one mark_is apart =
      subst
      (λ (j : ℕ). Allows Invariant slots id me j (λ x. either (eqb x 0) mark x) (TakesPart content part (step slots j 0 mark none) me))
      (sym at) (takes_there slots id me b mark within one mark_is apart)

  pub gives_part : (slots id : ℕ) (me : M) (b : ℕ) (x : S) (cs : List (ℕ × S)) (notes : Notes) → IsSingleClient me.0
      → me.1 ≡ (table_index b, x) ∷ cs → me.0.holds ≡ note b (content x) ∷ notes → ((y : Y) → ¬ Contains notes (note b y))
      → Allows Invariant slots id me (table_index b) (λ _. 0) (λ _. GivesPart (step slots (table_index b) 0 0 none) me 0)
  gives_part slots id me b x cs notes one carried held apart s k slot_count at small =
      let v : V = me.0 in
      let w : V = with_holds v (rest_of_list v.holds) in
      let same : notes ≡ rest_of_list v.holds = ap (rest_of_list {A = Note Y}) (sym held) in (
        w,
        gives,
        tt,
        subst (λ (l : List (ℕ × S)). Invariant (stepped s (table_index b) 0 id l w gives)) (sym carried)
            (subst (λ (l : Notes). Invariant record
            { words = set s.words (table_index b) 0; homes = set s.homes (table_index b) (some x); views = set s.views id (with_holds v l) }) same
            (gave_kept s k id v b x notes at one.0 held apart)),
        refl,
      )

  pub ends_call : (slots id : ℕ) (me : M) (b : ℕ) (x : S) (cs : List (ℕ × S)) (e : Call O R) (notes : Notes)
      → IsSingleClient me.0 → e.client ≡ me.0.mine.number → me.1 ≡ (table_index b, x) ∷ cs → parts_of_notes me.0.holds ≡ b ∷ parts_of_notes notes
      → ¬ Contains (parts_of_notes notes) b
      → HasEffect part answer valid e.operation e.reply me.0.holds (note b (content x) ∷ notes)
      → Allows Invariant slots id me (table_index b) (λ _. 0) (λ _. EndsWithCall answer e notes (step slots (table_index b) 0 0 none) me 0)
  ends_call slots id me b x cs e notes one by carried same apart done s k slot_count at small =
      let v : V = me.0 in
      let own : call_by v.mine.number e.operation e.reply ≡ e =
      (λ i. record { client = sym by i; operation = e.operation; reply = e.reply }) in
      let log = k.log in
      let old = k.each_view id v at in
      let w : V = after_call v log e notes in
      let new : Invariant record { words = set s.words (table_index b) 0; homes = set s.homes (table_index b) (some x); views = set s.views id w } =
      subst (λ (d : Call O R). Invariant record {
        words = set s.words (table_index b) 0;
        homes = set s.homes (table_index b) (some x);
        views = set s.views id (after_call v log d notes);
      }) own
      (ended_kept s k id v b x notes e.operation e.reply at one.0 one.1 same apart done) in
      let kept : Invariant (stepped s (table_index b) 0 id me.1 w gives) =
      subst (λ (l : List (ℕ × S)). Invariant (stepped s (table_index b) 0 id l w gives)) (sym carried) new in
      let mine = (kept.each_view id w (at_new s.views id v w at)).fits w.mine (here w.mine w.others) in
      let known = λ (q : Call O R) (h : Contains (log ++ e ∷ []) q). let r : q.client < clients =
      ⊎_elim (λ (o : Contains log q). k.clients_are_known q o)
      (λ (t : e ≡ q). subst (λ (z : Call O R). z.client < clients) t
      (subst (λ (m : ℕ). m < clients) (sym by) (old.known v.mine (here v.mine v.others) v.mine.number one.1)))
      (Contains-push_cases log e q h) in r in (
        w,
        gives,
        tt,
        kept,
        (
          log,
          refl,
          (old.fits v.mine (here v.mine v.others)).0.0,
          subst (λ (m : X × ℕ). IsHistory answer m.0 m.1 (log ++ e ∷ []))
              (λ i. (
                sym (old.same_map v.mine.number (stands_in v one.1)).0 i,
                sym (old.same_map v.mine.number (stands_in v one.1)).1 i,
              )) (
                legal_with answer start log e k.legal
                    (sym (done (state_after answer start log) k.set_is_valid (λ c y h. (old.holding c y h).noted)).0),
                known,
              ),
          mine.1,
        ),
      )

  there_is : (v : V) (i b : ℕ) (x : S) (cs : List (ℕ × S)) → i ≡ table_index b → (me : M)
      → (let now : M = (v, (i, x) ∷ cs) in me ≡ now) → (let now : M = (v, (table_index b, x) ∷ cs) in me ≡ now)
  there_is v i b x cs at me is = is ∙ (λ k. (v, (at k, x) ∷ cs))

  -- the same for a known word and seat
  pub gives_part_as : (slots id : ℕ) (me : M) (v : V) (i b : ℕ) (x : S) (cs : List (ℕ × S)) (notes : Notes)
      → i ≡ table_index b → (let now : M = (v, (i, x) ∷ cs) in me ≡ now) → IsSingleClient v → v.holds ≡ note b (content x) ∷ notes
      → ((y : Y) → ¬ Contains notes (note b y))
      → Allows Invariant slots id me i (λ _. 0) (λ _. GivesPart (step slots i 0 0 none) me 0)
  gives_part_as slots id me v i b x cs notes at is one held apart =
      subst (λ (z : M × ℕ). Allows Invariant slots id z.0 z.1 (λ _. 0) (λ _. GivesPart (step slots z.1 0 0 none) z.0 0))
      (λ k. (sym (there_is v i b x cs at me is) k, sym at k))
      (gives_part slots id (v, (table_index b, x) ∷ cs) b x cs notes one refl held apart)

  pub ends_call_as : (slots id : ℕ) (me : M) (v : V) (i b : ℕ) (x : S) (cs : List (ℕ × S)) (e e' : Call O R)
      (notes notes' : Notes) → i ≡ table_index b → e' ≡ e → notes' ≡ notes → (let now : M = (v, (i, x) ∷ cs) in me ≡ now)
      → IsSingleClient v → e.client ≡ v.mine.number → parts_of_notes v.holds ≡ b ∷ parts_of_notes notes → ¬ Contains (parts_of_notes notes) b
      → HasEffect part answer valid e.operation e.reply v.holds (note b (content x) ∷ notes)
      → Allows Invariant slots id me i (λ _. 0) (λ _. EndsWithCall answer e' notes' (step slots i 0 0 none) me 0)
  ends_call_as slots id me v i b x cs e e' notes notes' at same_e same_notes is one by same apart done =
      subst (λ (z : M × Call O R × Notes × ℕ). Allows Invariant slots id z.0 z.3 (λ _. 0)
      (λ _. EndsWithCall answer z.1 z.2 (step slots z.3 0 0 none) z.0 0))
      (λ k. (sym (there_is v i b x cs at me is) k, sym same_e k, sym same_notes k, sym at k))
      (ends_call slots id (v, (table_index b, x) ∷ cs) b x cs e notes one by refl same apart done)

  -- the effect of the step for a known seat, call and notes
  pub ended_is : (slots i : ℕ) (me me' : M) (v : V) (x : S) (cs : List (ℕ × S)) (e e' : Call O R)
      (notes notes' : Notes) → e' ≡ e → notes' ≡ notes → (let now : M = (v, (i, x) ∷ cs) in me ≡ now)
      → map (λ c. c.0) cs ≡ map table_index (parts_of_notes notes)
      → EndsWithCall answer e' notes' (step {S = S} slots i 0 0 none) me 0 me' → IsCarried me'
      × CallTakesEffect answer e notes v me'.0
  ended_is slots i me me' v x cs e e' notes notes' same_e same_notes is carried determined =
      let now : M = (v, (i, x) ∷ cs) in
      let t : EndsWithCall answer e notes (step {S = S} slots i 0 0 none) now 0 me' =
      subst (λ (z : M × Call O R × Notes). EndsWithCall answer z.1 z.2 (step {S = S} slots i 0 0 none) z.0 0 me')
      (λ k. (is k, same_e k, same_notes k)) determined in (
        subst (λ (m : M). IsCarried m) (sym t.1) carried,
        (t.0, (λ k. (t.1 k).0), t.2, t.3, t.4),
      )
