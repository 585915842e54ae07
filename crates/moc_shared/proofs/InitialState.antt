-- The invariant holds for a new map.
use Rattle.std.proofs.Common.{◌≡◌, ◌≢◌, ◌⊎◌, ℕ, zero, suc, ◌+◌, ◌<◌, ◌≤◌, List, [], ◌∷◌, map, length, refl, sym, ap}
use Rattle.std.proofs.Common.{◌∙◌, subst, inl, inr, ⊎_elim, arith, zero-add, eq-eqb, ne_eqb, cond, Bool, sum_by}
use Rattle.std.proofs.Common.{Contains}
use Rattle.std.specs.Prelude.{slice_index}
use mathlib.Core.Option.{some, some-ne-none, some-injective}
use mathlib.Core.Logic.{dite}
use native.Mathlib.Decide.{ℕ_discrete}
use lib.ListN.{get_elem?}
use Rattle.std.proofs.lemmas.List.Sums.{sum_by-cons}
use Rattle.atomic_table.specs.Table.{opening}
use Rattle.atomic_table.proofs.Lists.{some_there}
use Rattle.moc_shared.specs.declared.record.Calls.{Calls}
use Rattle.moc_shared.specs.declared.record.Record.{Record}
use Rattle.moc_shared.specs.declared.record.Note.{Note}
use Rattle.moc_shared.specs.declared.record.View.{View}
use Rattle.moc_shared.specs.History.{IsConsistent, StandsFor, times_standing, new_client_record}
use Rattle.moc_shared.specs.Seats.{table_index, note}
use Rattle.moc_shared.specs.Private.Invariant.{records, times_in_view, times_in_views, IsConsistentView, TableInvariant}
use Rattle.moc_shared.specs.Private.InitialViews.{no_client, view_for, new_client_records, first_view}
use Rattle.moc_shared.proofs.Basics.{here, nothing_in_empty_list, only, cons_cases}

module _ {O R : Type 0} where
  newcomer_is : (c k : ℕ) (r : Record O R) → Contains (new_client_records c k) r → (d : ℕ) × (d < c + k) × (new_client_record d ≡ r)
  newcomer_is c zero r h = absurd (nothing_in_empty_list r h)
  newcomer_is c (suc k) r h = ⊎_elim
      (λ (e : new_client_record c ≡ r). (c, omega arith, e))
      (λ (t : Contains (new_client_records (suc c) k) r). let q = newcomer_is (suc c) k r t in let l = q.1 in
      (q.0, omega arith, q.2))
      (cons_cases (new_client_record c) (new_client_records (suc c) k) r h)

module _ (O R : Type 0) where
  pub stood_same : (c : ℕ) → times_standing c (new_client_record {O = O} {R = R} c) ≡ 1
  stood_same c = ap (λ (b : Bool). 0 + cond b 1 0) (eq-eqb c c refl)

  stood_other : (c d : ℕ) → d ≢ c → times_standing c (new_client_record {O = O} {R = R} d) ≡ 0
  stood_other c d ne = ap (λ (b : Bool). 0 + cond b 1 0) (ne_eqb d c ne)

  stands_is : (c d : ℕ) → StandsFor (new_client_record {O = O} {R = R} d) c → d ≡ c
  stands_is c d st = dite (ℕ_discrete d c) (λ e. e) (λ ne. let z = stood_other c d ne in absurd (omega arith))

  within_max : (x c k : ℕ) → (x < c → sum_by (times_standing x) (new_client_records {O = O} {R = R} c k) ≡ 0)
      × (sum_by (times_standing x) (new_client_records {O = O} {R = R} c k) ≤ 1)
  within_max x c zero = ((λ l. refl), omega arith)
  within_max x c (suc k) =
      let f = within_max x (suc c) k in
      let e : sum_by (times_standing x) (new_client_records {O = O} {R = R} c (suc k)) ≡ times_standing x (new_client_record {O = O} {R = R} c) + sum_by
      (times_standing x) (new_client_records {O = O} {R = R} (suc c) k) = sum_by-cons (times_standing x) (new_client_record c) (new_client_records (suc c) k) in
      dite (ℕ_discrete c x)
      (λ same. let z = f.0 (omega arith) in
      let o : times_standing x (new_client_record {O = O} {R = R} c) ≡ 1 =
      ap (λ (y : ℕ). times_standing y (new_client_record {O = O} {R = R} c)) (sym same) ∙ stood_same c in
      ((λ l. absurd (omega arith)), omega arith))
      (λ other. let o : times_standing x (new_client_record {O = O} {R = R} c) ≡ 0 = stood_other x c other in let g = f.1 in
      ((λ l. let z = f.0 (omega arith) in omega arith), omega arith))

module _ {S X O R Y : Type 0} (n : ℕ) (content : S → Y) (part : ℕ → X → Y) (answer : X → O → X × R)
    (valid : X → Type 0) (start : X) (clients : ℕ) where
  abbrev V : Type 0
  V = View X O R Y

  records_are : (rs : List (Record O R)) (r : Record O R)
      → Contains (records (let v : V = view_for start clients rs in v)) r → (no_client ≡ r) ⊎ Contains rs r
  records_are [] r h = inl (only no_client r h)
  records_are (q ∷ qs) r h = inr h

  sums_are : (rs : List (Record O R)) (c : ℕ)
      → times_in_view c (let v : V = view_for start clients rs in v) ≡ sum_by (times_standing c) rs
  sums_are [] c = refl
  sums_are (q ∷ qs) c = refl

  holds_none : (rs : List (Record O R)) → (let v : V = view_for start clients rs in v.holds ≡ [])
  holds_none [] = refl
  holds_none (q ∷ qs) = refl

  map_is : (rs : List (Record O R))
      → (let v : V = view_for start clients rs in (v.start ≡ start) × (v.clients ≡ clients))
  map_is [] = (refl, refl)
  map_is (q ∷ qs) = (refl, refl)

  misses_none : (r : Record O R) (h b : ℕ) → (no_client ≡ r) ⊎ ((d : ℕ) × (d < 0 + clients) × (new_client_record d ≡ r))
      → Contains r.misses (h, b) → ⊥
  misses_none r h b w m =
      ⊎_elim (λ (e : no_client ≡ r). nothing_in_empty_list (h, b) (subst (λ (q : Record O R). Contains q.misses (h, b)) (sym e) m))
      (λ (t : (d : ℕ) × (d < 0 + clients) × (new_client_record d ≡ r)). nothing_in_empty_list (h, b)
      (subst (λ (q : Record O R). Contains q.misses (h, b)) (sym t.2) m)) w

  pub begins : (words : List ℕ) (xs : List S) → length words ≡ table_index n → length xs ≡ table_index n → ((b : ℕ) → slice_index words b ≡ 0)
      → ((b : ℕ) (x : S) → get_elem? (map some xs) (table_index b) ≡ some (some x) → content x ≡ part b start) → valid start
      → TableInvariant n content part answer valid start clients (opening words xs (first_view start clients))
  begins words xs word_count slot_count zeros contents set_is_valid =
      let first : V = first_view start clients in
      let rs : List (Record O R) = new_client_records 0 clients in
      let which = λ (i : ℕ) (v : V) (e : get_elem? (first ∷ []) i ≡ some v). let r : first ≡ v = one i v e in r in
      let kind = λ (r : Record O R) (h : Contains (records first) r). let q : (no_client ≡ r)
      ⊎ ((d : ℕ) × (d < 0 + clients) × (new_client_record d ≡ r)) =
      ⊎_elim (λ z. inl z) (λ t. inr (newcomer_is 0 clients r t)) (records_are rs r h) in q in
      record {
        log = [];
        legal = tt;
        seen_by_some = (first.mine, (0, first, refl, here first.mine first.others), mine_fresh clients);
        set_is_valid = set_is_valid;
        clients_are_known = λ e h. absurd (nothing_in_empty_list e h);
        word_count = word_count;
        slot_count = mapped_length xs ∙ slot_count;
        spare = λ b spare. zeros b;
        each_part = λ b l. let t = some_there xs (table_index b) (omega arith) in inl (zeros (table_index b), (t.0, t.1, contents b t.0 t.1));
        each_view =
            λ i v e. subst (λ (u : V). IsConsistentView n content part answer valid start clients [] words (map some xs) u)
            (which i v e) record {
              same_map = λ c p. map_is rs;
              fits = λ r h. ⊎_elim
                  (λ (z : no_client ≡ r). subst (λ (q : Record O R). IsConsistent [] q × IsConsistent q.seen q) z
                  ((([], refl), λ c i. absurd (nothing_in_empty_list c i)), (([], refl), λ c i. absurd (nothing_in_empty_list c i))))
                  (λ (t : (d : ℕ) × (d < 0 + clients) × (new_client_record d ≡ r)). subst
                  (λ (q : Record O R). IsConsistent [] q × IsConsistent q.seen q) t.2 (fresh t.0, fresh t.0))
                  (kind r h);
              known = λ r h c st. ⊎_elim
                  (λ (z : no_client ≡ r). let st' : StandsFor (no_client {O = O} {R = R}) c = subst
                  (λ (q : Record O R). StandsFor q c) (sym z) st in absurd (omega arith))
                  (λ (t : (d : ℕ) × (d < 0 + clients) × (new_client_record d ≡ r)). let l = t.1 in
                  let same = stands_is O R c t.0 (subst (λ (q : Record O R). StandsFor q c) (sym t.2) st) in
                  omega arith)
                  (kind r h);
              holding =
                  λ b y h. absurd
                  (nothing_in_empty_list (note b y) (subst (λ (l : List (Note Y)). Contains l (note b y)) (holds_none rs) h));
            };
        misses_are_marks = λ r q pr pq h b m st. absurd
            (misses_none r h b (kind r (subst (λ (u : V). Contains (records u) r) (sym (which pr.0 pr.1 pr.2)) pr.3))
            m);
        clients_are_distinct = λ c. let f = (within_max O R c 0 clients).1 in let e = sums_are rs c in
            let z : times_in_views c (first ∷ []) ≡ times_in_view c first = zero-add (times_in_view c first) in omega arith;
      }
    where
      one : (i : ℕ) (v : V) → get_elem? (first_view start clients ∷ []) i ≡ some v → first_view start clients ≡ v
      one zero v e = some-injective _ v e
      one (suc i) v e = absurd (some-ne-none v (sym e))

      mine_fresh : (k : ℕ) → (let v : V = view_for start clients (new_client_records 0 k) in v.mine.seen ≡ [])
      mine_fresh zero = refl
      mine_fresh (suc k) = refl

      fresh : (d : ℕ) → IsConsistent [] (new_client_record {O = O} {R = R} d)
      fresh d = (
        ([], refl),
        λ k i. let e : record { client = d; made = [] } ≡ k = only (record { client = d; made = [] }) k i
            in ap (λ (q : Calls O R). q.made) e,
      )

      mapped_length : (ys : List S) → length (map (λ (y : S). some y) ys) ≡ length ys
      mapped_length [] = refl
      mapped_length (y ∷ ys) = ap suc (mapped_length ys)
