-- The effect of each kind of step on the acting seat. The view of a seat is named v before the step and w afterwards.
use Rattle.std.specs.Prelude.{◌≡◌, ℕ, suc, ◌<◌, List, [], ◌∷◌, ◌++◌, map, Contains}
use Rattle.atomic_table.specs.Table.{Me, Step, rest}
use Rattle.moc_shared.specs.declared.record.Call.{Call}
use Rattle.moc_shared.specs.declared.record.Record.{Record}
use Rattle.moc_shared.specs.declared.record.Note.{Note}
use Rattle.moc_shared.specs.declared.record.View.{View}
use Rattle.moc_shared.specs.History.{StartsWith, IsConsistent, StandsFor, MissesMarked, own_with, IsHistory}
use Rattle.moc_shared.specs.Seats.{table_index, note}
use Rattle.moc_shared.specs.Private.Invariant.{records}

-- the list without its first element
abbrev pub rest_of_list : {A : Type 0} → List A → List A
rest_of_list [] = []
rest_of_list (x ∷ xs) = xs

module _ {O R : Type 0} where
  -- the record with a mark of its client on part b
  abbrev pub with_mark : ℕ → Record O R → Record O R
  with_mark b r = record r { marks = (r.number, b) ∷ r.marks }

  -- the record with further misses
  abbrev pub with_missed : List (ℕ × ℕ) → Record O R → Record O R
  with_missed more r = record r { misses = more ++ r.misses }

  -- the record after the call e at the end of the history log
  abbrev pub after_own_call : List (Call O R) → Call O R → Record O R → Record O R
  after_own_call log e r = record r { seen = log ++ e ∷ []; own = own_with e r.own }

  -- the record after seeing this history
  abbrev pub with_seen : List (Call O R) → Record O R → Record O R
  with_seen log r = record r { seen = log }

  -- the merged record of two, after seeing this history
  abbrev pub merged_record : Record O R → Record O R → List (Call O R) → Record O R
  merged_record r q log =
      record r { seen = log; own = r.own ++ q.own; marks = r.marks ++ q.marks; misses = r.misses ++ q.misses }

module _ {X O R Y : Type 0} where
  -- the view with part b held: its content, and the client's mark
  abbrev pub with_part : View X O R Y → ℕ → Y → View X O R Y
  with_part v b y = record v { mine = with_mark b v.mine; holds = note b y ∷ v.holds }

  -- the view with these parts held, and the client's mark on each
  abbrev pub with_parts : View X O R Y → List (Note Y) → View X O R Y
  with_parts v notes =
      let marks = map (λ t. (v.mine.number, t.part)) notes ++ v.mine.marks in
      record v { mine = record v.mine { marks = marks }; holds = notes }

  -- the view after missing part b, held by client h
  abbrev pub with_miss : View X O R Y → ℕ → ℕ → View X O R Y
  with_miss v h b = record v { mine = with_missed ((h, b) ∷ []) v.mine }

  -- the view after these misses
  abbrev pub with_misses : View X O R Y → List (ℕ × ℕ) → View X O R Y
  with_misses v waits = record v { mine = with_missed waits v.mine }

  -- the view with these parts held
  abbrev pub with_holds : View X O R Y → List (Note Y) → View X O R Y
  with_holds v notes = record v { holds = notes }

  -- the view after seeing the whole history and one more call, with these parts still held
  abbrev pub after_call : View X O R Y → List (Call O R) → Call O R → List (Note Y) → View X O R Y
  after_call v log e notes = record v { mine = after_own_call log e v.mine; holds = notes }

  -- the view after seeing the whole history
  abbrev pub with_history : View X O R Y → List (Call O R) → View X O R Y
  with_history v log = record v { mine = with_seen log v.mine; others = map (with_seen log) v.others }

  -- the view with its own record and q merged, after seeing this history
  abbrev pub merged : View X O R Y → Record O R → List (Call O R) → View X O R Y
  merged v q log = record v { mine = merged_record v.mine q log; others = [] }

  -- two views merged into one
  abbrev pub joined_views : View X O R Y → View X O R Y → View X O R Y
  joined_views v w = record v { others = v.others ++ w.mine ∷ w.others }

  -- the view with its first record only
  abbrev pub first_record : View X O R Y → View X O R Y
  first_record v = record v { others = [] }

module _ {S X O R Y : Type 0} (content : S → Y) (part : ℕ → X → Y) where
  -- Part b was free, and is now held with that part of some set. Otherwise another client of the map holds it, for
  -- which the seat does not stand.
  abbrev pub TakesOrMisses : ℕ → Me S (View X O R Y) → ℕ → Me S (View X O R Y) → Type 0
  TakesOrMisses b m previous m' =
      (previous ≡ 0
      → (x : S) × (set : X) × (content x ≡ part b set) × (m' ≡ (with_part m.0 b (content x), (table_index b, x) ∷ m.1)))
      × ((h : ℕ) → previous ≡ suc h → (m' ≡ (with_miss m.0 h b, m.1)) × (h < m.0.clients) × ¬ StandsFor m.0.mine h)

  -- the same for the part of the step's word
  abbrev pub TakesPart : Step S → Me S (View X O R Y) → ℕ → Me S (View X O R Y) → Type 0
  TakesPart st m previous m' = (b : ℕ) → st.word ≡ table_index b → TakesOrMisses b m previous m'

module _ {X O R Y : Type 0} where
  -- The view after the call e. The client has seen a legal history of the map's clients that extends what it had seen
  -- and ends with the call. Its own calls are extended by the call. The notes are of the parts that are still held.
  abbrev pub CallTakesEffect : (X → O → X × R) → Call O R → List (Note Y) → View X O R Y → View X O R Y → Type 0
  CallTakesEffect answer e notes v w =
      (log : List (Call O R)) × (w ≡ after_call v log e notes) × StartsWith log v.mine.seen
      × IsHistory answer v.start v.clients (log ++ e ∷ []) × IsConsistent w.mine.seen w.mine

module _ {S X O R Y : Type 0} where
  -- the slot that was taken last is filled again
  abbrev pub GivesPart : Step S → Me S (View X O R Y) → ℕ → Me S (View X O R Y) → Type 0
  GivesPart st m previous m' = m' ≡ (with_holds m.0 (rest_of_list m.0.holds), rest m.1)

  -- The slot that was taken last is filled again. The call e is at the end of a legal history of the map's clients that
  -- extends what was seen. The notes are those of the parts that are still held.
  abbrev pub EndsWithCall : (X → O → X × R) → Call O R → List (Note Y)
      → Step S → Me S (View X O R Y) → ℕ → Me S (View X O R Y) → Type 0
  EndsWithCall answer e notes st m previous m' =
      (log : List (Call O R)) × (m' ≡ (after_call m.0 log e notes, rest m.1)) × StartsWith log m.0.mine.seen
      × IsHistory answer m.0.start m.0.clients (log ++ e ∷ []) × IsConsistent m'.0.mine.seen m'.0.mine

  -- The whole history was seen: a legal history of the map's clients that extends and is consistent with each record of
  -- the view.
  abbrev pub SeesAll : (X → O → X × R) → Me S (View X O R Y) → Me S (View X O R Y) → Type 0
  SeesAll answer m m' =
      (log : List (Call O R)) × (m' ≡ (with_history m.0 log, m.1)) × IsHistory answer m.0.start m.0.clients log
      × ((r : Record O R) → Contains (records m.0) r → StartsWith log r.seen × IsConsistent log r)

  -- a step that reads the whole history
  abbrev pub ReadsHistory : (X → O → X × R) → Step S → Me S (View X O R Y) → ℕ → Me S (View X O R Y) → Type 0
  ReadsHistory answer st m previous m' = SeesAll answer m m'

  -- The whole history was seen, a legal history of the map's clients, and the own record and q were merged. The history
  -- extends both and is consistent with the merged record. A miss held by one of its own clients is also a mark.
  abbrev pub MergesWith : (X → O → X × R) → Record O R → Me S (View X O R Y) → Me S (View X O R Y) → Type 0
  MergesWith answer q m m' =
      (log : List (Call O R)) × (m' ≡ (merged m.0 q log, m.1)) × IsHistory answer m.0.start m.0.clients log
      × StartsWith log m.0.mine.seen × StartsWith log q.seen
      × IsConsistent log (merged_record m.0.mine q log) × MissesMarked (merged_record m.0.mine q log)

  -- a step that reads the whole history and merges the own record with the one further record
  abbrev pub MergesRecords : (X → O → X × R) → Step S → Me S (View X O R Y) → ℕ → Me S (View X O R Y) → Type 0
  MergesRecords answer st m previous m' = (q : Record O R) → m.0.others ≡ q ∷ [] → MergesWith answer q m m'
