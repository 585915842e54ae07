-- The last state of a table, from the view of one client.
use Rattle.std.proofs.Common.{◌≡◌, ◌≢◌, ℕ, suc, ◌<◌, List, [], sym, ap, ◌∙◌, subst, ⊎_elim, arith, Contains}
use Rattle.std.specs.Prelude.{slice_index}
use mathlib.Core.Option.{none, some, some-injective}
use lib.ListN.{get_elem?}
use Rattle.atomic_table.specs.Table.{Final, Seen, State}
use Rattle.moc_shared.specs.declared.record.Call.{Call}
use Rattle.moc_shared.specs.declared.record.Note.{Note}
use Rattle.moc_shared.specs.declared.record.View.{View}
use Rattle.moc_shared.specs.History.{IsConsistent, StandsFor, state_after, IsHistory}
use Rattle.moc_shared.specs.Seats.{table_index, note}
use Rattle.moc_shared.specs.Private.Invariant.{IsFree, SomeHolds, TableInvariant}
use Rattle.moc_shared.proofs.Basics.{here, nothing_in_empty_list}
use Rattle.moc_shared.proofs.DistinctClients.{stood_of, one_view}

module _ {S X O R Y : Type 0} (n : ℕ) (content : S → Y) (part : ℕ → X → Y) (answer : X → O → X × R)
    (valid : X → Type 0) (start : X) (clients : ℕ) where
  abbrev V : Type 0
  V = View X O R Y

  -- A legal history of calls of the clients, consistent with the client's record, and the content of each part whose
  -- word is 0 after it. Every word is 0 if the client stands for all.
  abbrev pub Ended_with : List ℕ → List S → V → Type 0
  Ended_with words xs v =
      (log : List (Call O R)) × IsHistory answer start clients log × IsConsistent log v.mine × valid (state_after answer start log)
      × ((b : ℕ) (x : S) → b < n → slice_index words (table_index b) ≡ 0 → get_elem? xs (table_index b) ≡ some x
      → content x ≡ part b (state_after answer start log))
      × ((b : ℕ) → b < n → slice_index words (table_index b) ≢ 0 → ((c : ℕ) → c < clients → StandsFor v.mine c) → ⊥)

  pub closes : (words : List ℕ) (xs : List S) (id : ℕ) (v : V) → v.holds ≡ []
      → Final (Seen (λ s. TableInvariant n content part answer valid start clients s) id v) words xs → Ended_with words xs v
  closes words xs id v idle (s, (k, at), same_words, long, values) =
      let A = state_after answer start k.log in (
        k.log,
        (k.legal, k.clients_are_known),
        ((k.each_view id v at).fits v.mine (here v.mine v.others)).0,
        k.set_is_valid,
        (λ b x l z e. let z' : slice_index s.words (table_index b) ≡ 0 = ap (λ (w : List ℕ). slice_index w (table_index b)) same_words ∙ z in ⊎_elim
            (λ (f : IsFree content part A s.words s.homes b). let q : f.1.0 ≡ x = some-injective f.1.0 x
            (sym (values (table_index b) f.1.0 f.1.1) ∙ e) in sym (ap content q) ∙ f.1.2)
            (λ (h : SomeHolds s.views b). let w = ((k.each_view h.0 h.1 h.3).holding b h.2 h.4).word_is in
            absurd (omega arith))
            (k.each_part b l)),
        (λ b l nz all. let nz' : slice_index s.words (table_index b) ≢ 0 =
            (λ z. nz (sym (ap (λ (w : List ℕ). slice_index w (table_index b)) same_words) ∙ z)) in ⊎_elim
            (λ (f : IsFree content part A s.words s.homes b). absurd (nz' f.0))
            (λ (h : SomeHolds s.views b).
            let u = h.1 in
            let d = (k.each_view h.0 u h.3).holding b h.2 h.4 in
            let c = u.mine.number in
            let mine = all c ((k.each_view h.0 u h.3).known u.mine (here u.mine u.others) c d.stands) in
            let a = stood_of c v v.mine (here v.mine v.others) in
            let z = stood_of c u u.mine (here u.mine u.others) in
            let st = d.stands in
            let same : h.0 ≡ id = one_view c s.views id h.0 v u (k.clients_are_distinct c) at h.3 (omega arith) (omega arith) in
            let one : u ≡ v =
            some-injective u v (sym h.3 ∙ subst (λ (j : ℕ). get_elem? s.views j ≡ some v) (sym same) at) in
            nothing_in_empty_list (note b h.2)
            (subst (λ (y : List (Note Y)). Contains y (note b h.2)) idle
            (subst (λ (y : V). Contains y.holds (note b h.2)) one h.4)))
            (k.each_part b l)),
      )

  -- if the last word of a part is not 0, a client for which this client does not stand holds it in the last state
  pub record Held_last (words : List ℕ) (v : V) (b : ℕ) : Type 0 where
    pub state : State S V
    pub rule : TableInvariant n content part answer valid start clients state
    pub seat : ℕ
    pub seen : get_elem? state.views seat ≡ some v
    pub holder : ℕ
    pub known : holder < clients
    pub other : ¬ StandsFor v.mine holder
    pub word_is : slice_index state.words (table_index b) ≡ suc holder
    pub out : get_elem? state.homes (table_index b) ≡ some none
    pub words_are : state.words ≡ words

  pub nonzero_words_are_held : (words : List ℕ) (xs : List S) (id : ℕ) (v : V) → v.holds ≡ []
      → Final (Seen (λ s. TableInvariant n content part answer valid start clients s) id v) words xs
      → (b : ℕ) → b < n → slice_index words (table_index b) ≢ 0 → Held_last words v b
  nonzero_words_are_held words xs id v idle (s, (k, at), same_words, long, values) b l nz =
      let A = state_after answer start k.log in
      let nz' : slice_index s.words (table_index b) ≢ 0 =
      (λ z. nz (sym (ap (λ (w : List ℕ). slice_index w (table_index b)) same_words) ∙ z)) in ⊎_elim
      (λ (f : IsFree content part A s.words s.homes b). absurd (nz' f.0))
      (λ (h : SomeHolds s.views b).
      let u = h.1 in
      let fits = k.each_view h.0 u h.3 in
      let d = fits.holding b h.2 h.4 in
      let c = u.mine.number in record {
        state = s;
        rule = k;
        seat = id;
        seen = at;
        holder = c;
        known = fits.known u.mine (here u.mine u.others) c d.stands;
        other = λ mine.
            let a = stood_of c v v.mine (here v.mine v.others) in
            let z = stood_of c u u.mine (here u.mine u.others) in
            let st = d.stands in
            let same : h.0 ≡ id = one_view c s.views id h.0 v u (k.clients_are_distinct c) at h.3 (omega arith) (omega arith) in
            let one : u ≡ v =
            some-injective u v (sym h.3 ∙ subst (λ (j : ℕ). get_elem? s.views j ≡ some v) (sym same) at) in
            nothing_in_empty_list (note b h.2)
            (subst (λ (y : List (Note Y)). Contains y (note b h.2)) idle
            (subst (λ (y : V). Contains y.holds (note b h.2)) one h.4));
        word_is = d.word_is;
        out = d.out;
        words_are = same_words;
      })
      (k.each_part b l)
