-- The guarantees of a call for the record, from the effects of its steps on the view.
use Rattle.std.proofs.Common.{◌≡◌, ℕ, ◌<◌, List, [], ◌∷◌, ◌++◌, map, refl, sym, ap, ◌∙◌, subst, inl, inr, ⊎_elim}
use Rattle.std.proofs.Common.{Contains, IsTrue, Option, Result, Ok, Err, IfOk, OnErr}
use Rattle.atomic_table.specs.Table.{Me}
use Rattle.moc_lists.specs.RangeList.{NumberSet}
use Rattle.moc_parts.specs.declared.command.Command.{Command}
use Rattle.moc_parts.specs.declared.reply.Reply.{Reply}
use Rattle.moc_shared.specs.declared.client.Client.{Client}
use Rattle.moc_shared.specs.declared.client.Holding.{Holding}
use Rattle.moc_shared.specs.declared.map.SharedMap.{SharedMap}
use Rattle.moc_shared.specs.declared.errors.Busy.{Busy}
use Rattle.moc_shared.specs.Private.InitialViews.{rest_view}
use Rattle.moc_shared.specs.History.{call_by, StartsWith, IsConsistent, StandsFor, IsHistory, MissesMarked}
use Rattle.moc_shared.specs.Seats.{note, Pointer, ClientView}
use Rattle.moc_shared.specs.Private.Invariant.{records, IsSingleClient}
use Rattle.moc_shared.specs.Private.Seats.{IsCarried, PartNote, notes_below, AreWithinOwnParts, IsFootprint}
use Rattle.moc_shared.specs.Private.StepEffects.{first_record, joined_views, with_history, with_seen, merged_record, MergesWith, CallTakesEffect, after_call, with_parts, with_holds, with_miss}
use Rattle.moc_shared.specs.Private.Slots.{BatchFailsOutOfMemory, MissesTaking, BatchTakesEffect}
use Rattle.moc_parts.specs.Batches.{footprint_of_all}
use Rattle.moc_shared.specs.Batches.{BatchCall, BatchRecord, batch_answer}
use Rattle.moc_shared.specs.Clients.{start_of, clients_of, record_of, IsClientOf, IsHoldingOf, SeeSameHistory, TakesIn}
use Rattle.moc_shared.specs.Clients.{AddsMarks, TakesEffect, MissesPart, HasNoEffect, FailsOutOfMemory, FailsOutOfMemoryHolding}
use Rattle.moc_shared.proofs.Basics.{here, there, nothing_in_empty_list, cons_cases, starts_itself, stood_with_call}
use Rattle.moc_shared.proofs.SlotIndices.{slot_index_of_note}

abbrev Same : ℕ × ℕ → ℕ × ℕ → Type 0
Same x y = x ≡ y

-- the marks of client n on these parts
abbrev marks_of : ℕ → List PartNote → List (ℕ × ℕ)
marks_of n notes = map (λ t. (n, t.part)) notes

mark_of_client : (n : ℕ) (notes : List PartNote) (c b : ℕ) → Contains (marks_of n notes) (c, b) → (c ≡ n)
    × ((y : Option NumberSet) × Contains notes (note b y))
mark_of_client n [] c b h = absurd (nothing_in_empty_list (c, b) h)
mark_of_client n (t ∷ ts) c b h = ⊎_elim
    (λ (e : Same (n, t.part) (c, b)). (
      sym (ap (λ (z : ℕ × ℕ). z.0) e),
      (t.content, subst (λ (k : ℕ). Contains (t ∷ ts) (note k t.content)) (ap (λ (z : ℕ × ℕ). z.1) e) (here t ts)),
    ))
    (λ (m : Contains (marks_of n ts) (c, b)). let r = mark_of_client n ts c b m in
    (r.0, (r.1.0, there t ts (note b r.1.0) r.1.1)))
    (cons_cases (n, t.part) (marks_of n ts) (c, b) h)

-- the marks of the taken parts
marks_of_notes_added : (op : List Command) (v : ClientView) (notes : List PartNote)
    → ((p : ℕ) (y : Option NumberSet) → Contains notes (note p y) → IsTrue (footprint_of_all op p))
    → AddsMarks op v.mine (with_parts v notes).mine
marks_of_notes_added op v notes touched = (
  marks_of v.mine.number notes,
  refl,
  λ c b h. let m = mark_of_client v.mine.number notes c b h in
      (m.0, touched b m.1.0 m.1.1),
)

pub notes_at_end : (the : SharedMap) (op : List Command) (reply : List Reply) (number : ℕ) (v u w : ClientView)
    (notes : List PartNote)
    → ((p : ℕ) (y : Option NumberSet) → Contains notes (note p y) → IsTrue (footprint_of_all op p))
    → v.start ≡ start_of the → v.clients ≡ clients_of the → number ≡ v.mine.number → u ≡ with_parts v notes
    → CallTakesEffect batch_answer (call_by u.mine.number op reply) [] u w → TakesEffect the (call_by number op reply) v.mine w.mine
notes_at_end the op reply number v u w notes touched start clients number_is held determined =
    let e : BatchCall = call_by v.mine.number op reply in
    let now : ClientView = with_parts v notes in
    let t : CallTakesEffect batch_answer e [] now w =
    subst (λ (x : ClientView). CallTakesEffect batch_answer (call_by x.mine.number op reply) [] x w) held determined in
    let log : List BatchCall = t.0 in
    let is : w.mine ≡ (after_call now log e []).mine = (λ i. (t.1 i).mine) in
    let ended : TakesEffect the e v.mine (after_call now log e []).mine = record {
      number = refl;
      between = t.2.0;
      seen = ap (λ (l : List BatchCall). l ++ e ∷ []) t.2.1;
      history = subst (λ (m : NumberSet × ℕ). IsHistory batch_answer m.0 m.1 (log ++ e ∷ []))
          (λ i. (start i, clients i)) t.3;
      own = refl;
      fits = subst (λ (r : BatchRecord). IsConsistent r.seen r) is t.4;
      marks = marks_of_notes_added op v notes touched;
      misses = refl;
    } in
    subst (λ (x : BatchCall × BatchRecord). TakesEffect the x.0 v.mine x.1)
    (λ i. (call_by (sym number_is i) op reply, sym is i)) ended

pub ends_from : (the : SharedMap) (op : List Command) (reply : List Reply) (number : ℕ) (v u w : ClientView)
    (previous : List (Option Pointer)) → IsFootprint op previous → v.start ≡ start_of the → v.clients ≡ clients_of the
    → number ≡ v.mine.number → u ≡ with_parts v (notes_below previous 12)
    → CallTakesEffect batch_answer (call_by u.mine.number op reply) [] u w → TakesEffect the (call_by number op reply) v.mine w.mine
ends_from the op reply number v u w previous set_is_valid =
    notes_at_end the op reply number v u w (notes_below previous 12) (λ p y h. slot_index_of_note op previous 12 p y set_is_valid h)

pub notes_after_undo : (op : List Command) (v u w : ClientView) (notes : List PartNote)
    → ((p : ℕ) (y : Option NumberSet) → Contains notes (note p y) → IsTrue (footprint_of_all op p))
    → u ≡ with_parts v notes → w ≡ with_holds u [] → HasNoEffect op v.mine w.mine
notes_after_undo op v u w notes touched held gave =
    let is : w.mine ≡ (with_parts v notes).mine = (λ i. (gave i).mine) ∙ (λ i. (held i).mine) in
    let undone : HasNoEffect op v.mine (with_parts v notes).mine =
    record { same = (refl, refl, refl); marks = marks_of_notes_added op v notes touched; misses = refl } in
    subst (λ (r : BatchRecord). HasNoEffect op v.mine r) (sym is) undone

pub undone_after_start : (op : List Command) (v u w : ClientView) (previous : List (Option Pointer)) → IsFootprint op previous
    → u ≡ with_parts v (notes_below previous 12) → w ≡ with_holds u [] → HasNoEffect op v.mine w.mine
undone_after_start op v u w previous set_is_valid =
    notes_after_undo op v u w (notes_below previous 12) (λ p y h. slot_index_of_note op previous 12 p y set_is_valid h)

pub refuses_from : (the : SharedMap) (op : List Command) (b : Busy) (v w : ClientView) → v.clients ≡ clients_of the
    → MissesTaking op b.part b.holder v w → MissesPart the op b v.mine w.mine
refuses_from the op b v w clients (notes, is, touched, part_touched, within, known, other) =
    let refused : MissesPart the op b v.mine (with_holds (with_miss (with_parts v notes) b.holder b.part) []).mine =
    record {
      same = (refl, refl, refl);
      marks = marks_of_notes_added op v notes touched;
      misses = refl;
      touched = part_touched;
      known = subst (λ (n : ℕ). b.holder < n) clients known;
      other = other;
    } in
    subst (λ (r : BatchRecord). MissesPart the op b v.mine r) (sym (λ i. (is i).mine)) refused

-- a meeting: the seat of b takes in that of a, reads the history, and gives the record of a to a new seat
pub client_after_meeting : (the : SharedMap) (a a' b b' : Client) (b1 b2 b3 : ClientView) → IsClientOf the a → IsClientOf the b
    → b1 ≡ first_record b.seat.me.0 → b2 ≡ joined_views b1 a.seat.me.0
    → (history_read : (log : List BatchCall) × (b3 ≡ with_history b2 log) × IsHistory batch_answer b2.start b2.clients log
    × ((r : BatchRecord) → Contains (records b2) r → StartsWith log r.seen × IsConsistent log r))
    → b'.seat.me.0 ≡ first_record b3 → a'.seat.me.0 ≡ rest_view b3
    → SeeSameHistory the (record_of a) (record_of a') (record_of b) (record_of b')
client_after_meeting the a a' b b' b1 b2 b3 of_a of_b e1 e2 history_read e4 e5 =
    let va = a.seat.me.0 in
    let vb = b.seat.me.0 in
    let log = history_read.0 in
    let two : ClientView = joined_views (first_record vb) va in
    let is2 : b2 ≡ two = e2 ∙ ap (λ (x : ClientView). joined_views x va) e1 in
    let is3 : b3 ≡ with_history two log = history_read.1 ∙ ap (λ (x : ClientView). with_history x log) is2 in
    let fa = history_read.3 va.mine
    (subst (λ (x : ClientView). Contains (records x) va.mine) (sym is2)
    (there vb.mine (va.mine ∷ va.others) va.mine (here va.mine va.others))) in
    let fb = history_read.3 vb.mine
    (subst (λ (x : ClientView). Contains (records x) vb.mine) (sym is2) (here vb.mine (va.mine ∷ va.others))) in
    let is_a : record_of a' ≡ with_seen log va.mine = (λ i. (e5 i).mine) ∙ ap (λ (x : ClientView). (rest_view x).mine) is3 in
    let is_b : record_of b' ≡ with_seen log vb.mine = (λ i. (e4 i).mine) ∙ ap (λ (x : ClientView). x.mine) is3 in (
      log,
      is_a,
      is_b,
      subst (λ (m : NumberSet × ℕ). IsHistory batch_answer m.0 m.1 log)
          (λ i. (((λ j. (is2 j).start) ∙ of_b.start) i, ((λ j. (is2 j).clients) ∙ of_b.clients) i)) history_read.2,
      fa.0,
      fb.0,
      subst (λ (r : BatchRecord). IsConsistent log r) (sym is_a) (starts_itself log, fa.1.1),
      subst (λ (r : BatchRecord). IsConsistent log r) (sym is_b) (starts_itself log, fb.1.1),
    )

pub one_other : (the : SharedMap) (a b : Client) (a1 : ClientView) → IsClientOf the a → IsClientOf the b
    → a1 ≡ joined_views a.seat.me.0 b.seat.me.0 → a1.others ≡ record_of b ∷ []
one_other the a b a1 of_a of_b e = (λ i. (e i).others) ∙ (λ i. of_a.one.0 i ++ b.seat.me.0.mine ∷ of_b.one.0 i)

pub client_of_taken : (the : SharedMap) (a b : Client) (a1 : ClientView) (m m' : Me (Option Pointer) ClientView) → IsClientOf the a
    → IsClientOf the b → a1 ≡ joined_views a.seat.me.0 b.seat.me.0 → m.0 ≡ a1 → MergesWith batch_answer (record_of b) m m'
    → TakesIn the (record_of a) (record_of b) m'.0.mine
client_of_taken the a b a1 m m' of_a of_b e same determined =
    let mine : m.0.mine ≡ record_of a = (λ i. (same i).mine) ∙ (λ i. (e i).mine) in
    let log = determined.0 in
    let is : m'.0.mine ≡ merged_record (record_of a) (record_of b) log = (λ i. (determined.1 i).0.mine)
    ∙ ap (λ (r : BatchRecord). merged_record r (record_of b) log) mine in
    let facts : StartsWith log (record_of a).seen × IsConsistent log (merged_record (record_of a) (record_of b) log)
    × MissesMarked (merged_record (record_of a) (record_of b) log) =
    subst (λ (r : BatchRecord). StartsWith log r.seen × IsConsistent log (merged_record r (record_of b) log)
    × MissesMarked (merged_record r (record_of b) log)) mine (determined.3, determined.5, determined.6) in (
      log,
      is,
      subst (λ (m : NumberSet × ℕ). IsHistory batch_answer m.0 m.1 log)
          (λ i. (
            ((λ j. (same j).start) ∙ (λ j. (e j).start) ∙ of_a.start) i,
            ((λ j. (same j).clients) ∙ (λ j. (e j).clients) ∙ of_a.clients) i,
          ))
          determined.2,
      facts.0,
      determined.4,
      subst (λ (r : BatchRecord). IsConsistent log r) (sym is) facts.1,
      subst (λ (r : BatchRecord). MissesMarked r) (sym is) facts.2,
    )

no_entry_added : (op : List Command) (r : BatchRecord) (marks : List (ℕ × ℕ)) → (extra : List (ℕ × ℕ))
    × (marks ≡ extra ++ marks) × ((c b : ℕ) → Contains extra (c, b) → (c ≡ r.number) × IsTrue (footprint_of_all op b))
no_entry_added op r marks = ([], refl, λ c b h. let x : ℕ × ℕ = (c, b) in absurd (nothing_in_empty_list x h))

pub undone_immediately : (op : List Command) (r : BatchRecord) → HasNoEffect op r r
undone_immediately op r =
    record { same = (refl, refl, refl); marks = no_entry_added op r r.marks; misses = refl }

-- the same if the call took no part
pub history_at_end : (the : SharedMap) (op : List Command) (reply : List Reply) (number : ℕ) (v w : ClientView)
    → v.start ≡ start_of the → v.clients ≡ clients_of the → number ≡ v.mine.number
    → CallTakesEffect batch_answer (call_by v.mine.number op reply) [] v w → TakesEffect the (call_by number op reply) v.mine w.mine
history_at_end the op reply number v w start clients number_is t =
    let e : BatchCall = call_by v.mine.number op reply in
    let log : List BatchCall = t.0 in
    let is : w.mine ≡ (after_call v log e []).mine = (λ i. (t.1 i).mine) in
    let ended : TakesEffect the e v.mine (after_call v log e []).mine = record {
      number = refl;
      between = t.2.0;
      seen = ap (λ (l : List BatchCall). l ++ e ∷ []) t.2.1;
      history = subst (λ (m : NumberSet × ℕ). IsHistory batch_answer m.0 m.1 (log ++ e ∷ []))
          (λ i. (start i, clients i)) t.3;
      own = refl;
      fits = subst (λ (r : BatchRecord). IsConsistent r.seen r) is t.4;
      marks = no_entry_added op v.mine v.mine.marks;
      misses = refl;
    } in
    subst (λ (x : BatchCall × BatchRecord). TakesEffect the x.0 v.mine x.1)
    (λ i. (call_by (sym number_is i) op reply, sym is i)) ended

pub undone_while_holding : (op : List Command) (v u : ClientView) (previous : List (Option Pointer)) → IsFootprint op previous
    → u ≡ with_parts v (notes_below previous 12) → HasNoEffect op v.mine u.mine
undone_while_holding op v u previous set_is_valid held =
    let undone : HasNoEffect op v.mine (with_parts v (notes_below previous 12)).mine =
    record {
      same = (refl, refl, refl);
      marks = marks_of_notes_added op v (notes_below previous 12) (λ p y h. slot_index_of_note op previous 12 p y set_is_valid h);
      misses = refl;
    } in
    subst (λ (r : BatchRecord). HasNoEffect op v.mine r) (sym (λ i. (held i).mine)) undone

pub holds_in_call : (the : SharedMap) (a : Client) (h : Holding) → IsClientOf the a → h.client.number ≡ a.number
    → h.client.seat.table_id ≡ the.table.shared.table_id
    → h.client.seat.me.0 ≡ with_parts a.seat.me.0 (notes_below h.slots 12) → IsCarried h.client.seat.me
    → IsFootprint h.batch h.slots → AreWithinOwnParts h.slots → IsHoldingOf the h
holds_in_call the a h of_a number table view carried footprint own = record {
  table = table;
  one = subst (λ (x : ClientView). IsSingleClient x) (sym view) (of_a.one.0, of_a.one.1);
  number = number ∙ of_a.number ∙ sym (λ i. (view i).mine.number);
  carried = carried;
  held = λ i. (view i).holds;
  footprint = footprint;
  own = own;
  start = (λ i. (view i).start) ∙ of_a.start;
  clients = (λ i. (view i).clients) ∙ of_a.clients;
}

pub client_unchanged_if_refused : (the : SharedMap) (a a' : Client) (b h : ℕ) (op : List Command) → IsClientOf the a
    → a'.number ≡ a.number → a'.seat.table_id ≡ the.table.shared.table_id → a'.seat.me.1 ≡ []
    → MissesTaking op b h a.seat.me.0 a'.seat.me.0 → IsClientOf the a'
client_unchanged_if_refused the a a' b h op of_a number table no_slot (notes, view, touched, part_touched, within, known, other) =
    record {
      table = table;
      one = subst (λ (x : ClientView). IsSingleClient x) (sym view) (of_a.one.0, of_a.one.1);
      number = number ∙ of_a.number ∙ sym (λ i. (view i).mine.number);
      no_slot = no_slot;
      no_part = λ i. (view i).holds;
      start = (λ i. (view i).start) ∙ of_a.start;
      clients = (λ i. (view i).clients) ∙ of_a.clients;
    }

-- the view is unchanged except for the history of its record, and holds no part
pub record Stays (v w : ClientView) : Type 0 where
  pub others : w.others ≡ v.others
  pub no_part : w.holds ≡ []
  pub start : w.start ≡ v.start
  pub clients : w.clients ≡ v.clients
  pub number : w.mine.number ≡ v.mine.number
  pub stands : StandsFor v.mine v.mine.number → StandsFor w.mine w.mine.number

client_unchanged_by_equality : (v u w : ClientView) → u ≡ w → Stays v u → Stays v w
client_unchanged_by_equality v u w e = subst (λ (x : ClientView). Stays v x) e

pub client_unchanged_after_release : (v w : ClientView) → w ≡ with_holds v [] → Stays v w
client_unchanged_after_release v w e =
    client_unchanged_by_equality v (with_holds v []) w (sym e) record
    { others = refl; no_part = refl; start = refl; clients = refl; number = refl; stands = λ st. st }

pub client_unchanged_after_call : (e : BatchCall) (v w : ClientView) → CallTakesEffect batch_answer e [] v w → Stays v w
client_unchanged_after_call e v w (log, is, starts, legal, fits) = client_unchanged_by_equality v (after_call v log e []) w (sym is) record {
  others = refl;
  no_part = refl;
  start = refl;
  clients = refl;
  number = refl;
  stands = λ st. subst (λ (n : ℕ). 0 < n) (sym (stood_with_call e v.mine (log ++ e ∷ []) v.mine.number)) st;
}

-- a client stays a client while it gives parts back
pub single_client_after_call : (e : BatchCall) (notes : List PartNote) (v w : ClientView) → IsSingleClient v → CallTakesEffect batch_answer e notes v w → IsSingleClient w
single_client_after_call e notes v w one (log, is, starts, legal, fits) =
    subst (λ (x : ClientView). IsSingleClient x) (sym is)
    (one.0, subst (λ (n : ℕ). 0 < n) (sym (stood_with_call e v.mine (log ++ e ∷ []) v.mine.number)) one.1)

pub client_unchanged_out_of_memory : (cs : List Command) (v w : ClientView) → BatchFailsOutOfMemory cs v w → Stays v w
client_unchanged_out_of_memory cs v w g = ⊎_elim (λ e. client_unchanged_after_release v w e) (λ t. client_unchanged_after_call (call_by v.mine.number cs t.1.0) v w t.1.1) g

pub client_unchanged_with_parts : (v u w : ClientView) (notes : List PartNote) → u ≡ with_parts v notes → Stays u w → Stays v w
client_unchanged_with_parts v u w notes e s =
    let t : Stays (with_parts v notes) w = subst (λ (x : ClientView). Stays x w) e s in
    record {
      others = t.others;
      no_part = t.no_part;
      start = t.start;
      clients = t.clients;
      number = t.number;
      stands = t.stands;
    }

-- a client after a call that gave all parts back
pub idle_after : (the : SharedMap) (a a' : Client) → IsClientOf the a → Stays a.seat.me.0 a'.seat.me.0
    → a'.number ≡ a.number → a'.seat.table_id ≡ the.table.shared.table_id → a'.seat.me.1 ≡ [] → IsClientOf the a'
idle_after the a a' of_a s number table no_slot = record {
  table = table;
  one = (s.others ∙ of_a.one.0, s.stands of_a.one.1);
  number = number ∙ of_a.number ∙ sym s.number;
  no_slot = no_slot;
  no_part = s.no_part;
  start = s.start ∙ of_a.start;
  clients = s.clients ∙ of_a.clients;
}

pub idle_after_call : (the : SharedMap) (h : Holding) (a' : Client) → IsHoldingOf the h
    → Stays h.client.seat.me.0 a'.seat.me.0 → a'.number ≡ h.client.number → a'.seat.table_id ≡ the.table.shared.table_id
    → a'.seat.me.1 ≡ [] → IsClientOf the a'
idle_after_call the h a' of_h s number table no_slot = record {
  table = table;
  one = (s.others ∙ of_h.one.0, s.stands of_h.one.1);
  number = number ∙ of_h.number ∙ sym s.number;
  no_slot = no_slot;
  no_part = s.no_part;
  start = s.start ∙ of_h.start;
  clients = s.clients ∙ of_h.clients;
}

pub fails_from : (the : SharedMap) (op : List Command) (v u w : ClientView) (previous : List (Option Pointer))
    → IsFootprint op previous → v.start ≡ start_of the → v.clients ≡ clients_of the
    → u ≡ with_parts v (notes_below previous 12) → BatchFailsOutOfMemory op u w → FailsOutOfMemory the op v.mine w.mine
fails_from the op v u w previous set_is_valid start clients held g = ⊎_elim
    (λ e. inl (undone_after_start op v u w previous set_is_valid held e))
    (λ t. inr (t.0, (t.1.0, ends_from the op t.1.0 v.mine.number v u w previous set_is_valid start clients refl held t.1.1)))
    g

pub no_effect_holding : (the : SharedMap) (op : List Command) (v w : ClientView) → v.start ≡ start_of the
    → v.clients ≡ clients_of the → BatchFailsOutOfMemory op v w → FailsOutOfMemoryHolding the op v.mine w.mine
no_effect_holding the op v w start clients g = ⊎_elim
    (λ e. inl (λ i. (e i).mine))
    (λ t. inr (t.0, (t.1.0, history_at_end the op t.1.0 v.mine.number v w start clients refl t.1.1)))
    g

-- a call that gives all parts back adds no mark
marks_unchanged : (e : BatchCall) (v w : ClientView) → CallTakesEffect batch_answer e [] v w → w.mine.marks ≡ v.mine.marks
marks_unchanged e v w t = λ i. (t.1 i).mine.marks

pub marks_after_call : {E : Type 0} (cs : List Command) (v w : ClientView) (r : Result (List Reply) E)
    → IfOk r (λ x. CallTakesEffect batch_answer (call_by v.mine.number cs x) [] v w) → OnErr r (BatchFailsOutOfMemory cs v w)
    → w.mine.marks ≡ v.mine.marks
marks_after_call cs v w (Ok x) ok err = marks_unchanged (call_by v.mine.number cs x) v w ok
marks_after_call cs v w (Err e) ok err =
    ⊎_elim (λ g. λ i. (g i).mine.marks) (λ t. marks_unchanged (call_by v.mine.number cs t.1.0) v w t.1.1) err

pub client_unchanged_at_end : {E : Type 0} (cs : List Command) (v w : ClientView) (r : Result (List Reply) E)
    → IfOk r (λ x. CallTakesEffect batch_answer (call_by v.mine.number cs x) [] v w) → OnErr r (BatchFailsOutOfMemory cs v w) → Stays v w
client_unchanged_at_end cs v w (Ok x) ok err = client_unchanged_after_call (call_by v.mine.number cs x) v w ok
client_unchanged_at_end cs v w (Err e) ok err = client_unchanged_out_of_memory cs v w err

-- a query whose replies are computed later
pub ends_replied : {E : Type 0} (cs : List Command) (v w : ClientView) (replies : List Reply) (r : Result (List Reply) E)
    → BatchTakesEffect cs replies [] v w → IfOk r (λ x. x ≡ replies) → IfOk r (λ x. BatchTakesEffect cs x [] v w)
ends_replied cs v w replies (Ok x) ends is = subst (λ (l : List Reply). BatchTakesEffect cs l [] v w) (sym is) ends
ends_replied cs v w replies (Err e) ends is = tt
