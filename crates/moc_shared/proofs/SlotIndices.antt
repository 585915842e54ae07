-- Slots by index, and their notes.
use Rattle.std.proofs.Common.{◌≡◌, ◌≢◌, ℕ, zero, suc, ◌+◌, ◌<◌, ◌≤◌, List, [], ◌∷◌, length, map, set, refl, sym, ap, ◌∙◌}
use Rattle.std.proofs.Common.{subst, ⊎_elim, arith, Contains, Option, Some, None, get_or-set_same, get_or-set_other}
use Rattle.std.proofs.Common.{le_refl, add-zero, ◌-◌, is_some, true, false, inl, inr, get_or}
use Rattle.std.proofs.lemmas.Bool.{cases_lt}
use mathlib.Core.Logic.{dite}
use native.Mathlib.Decide.{ℕ_discrete}
use Rattle.moc_lists.specs.RangeList.{NumberSet}
use Rattle.moc_parts.specs.declared.command.Command.{Command}
use Rattle.moc_shared.specs.Seats.{table_index, note, Pointer, ClientView}
use Rattle.moc_shared.specs.Private.Invariant.{parts_of_notes}
use Rattle.moc_shared.specs.Private.Seats.{PartNote, content, shared, note_if, slot_at, notes_below, IsCarried}
use Rattle.moc_shared.specs.Private.Slots.{changed_content}
use Rattle.std.specs.Arc.{arc_value}
use Rattle.std.specs.Option.{unwrap_or}
use Rattle.moc_shared.specs.Private.StepEffects.{with_holds, with_miss, with_part, with_parts, rest_of_list}
use Rattle.moc_parts.specs.Batches.{footprint_of_all}
use Rattle.atomic_table.specs.Table.{Me}
use Rattle.moc_shared.specs.History.{StandsFor}
use Rattle.moc_shared.proofs.CarriedSlots.{no_entries_of_no_keys}
use Rattle.moc_shared.proofs.Basics.{here, there, nothing_in_empty_list, cons_cases}

pub notes_none : (previous : List (Option Pointer)) → notes_below previous 0 ≡ []
unfolding notes_below
notes_none previous = refl

pub notes_next : (previous : List (Option Pointer)) (b : ℕ)
    → notes_below previous (suc b) ≡ note_if b (slot_at previous b) (notes_below previous b)
unfolding notes_below
notes_next previous b = refl

pub place_set_other : (previous : List (Option Pointer)) (b k : ℕ) (y : Option Pointer) → k ≢ b
    → slot_at (set previous b y) k ≡ slot_at previous k
place_set_other previous b k y ne = get_or-set_other previous b k y None ne

pub place_set_same : (previous : List (Option Pointer)) (b : ℕ) (y : Option Pointer) → b < length previous
    → slot_at (set previous b y) b ≡ y
place_set_same previous b y h = get_or-set_same previous b y None h

-- a write at b or above does not change the notes below b
pub notes_set : (previous : List (Option Pointer)) (b k : ℕ) (y : Option Pointer) → k ≤ b
    → notes_below (set previous b y) k ≡ notes_below previous k
notes_set previous b zero y le = notes_none (set previous b y) ∙ sym (notes_none previous)
notes_set previous b (suc k) y le = notes_next (set previous b y) k
    ∙ (λ i. note_if k (place_set_other previous b k y (λ e. omega arith) i) (notes_set previous b k y (omega arith) i))
    ∙ sym (notes_next previous k)

lt_if : (b p : ℕ) (y : Option NumberSet) (o : Option Pointer) (notes : List (PartNote))
    → (Contains notes (note p y) → p < b) → Contains (note_if b o notes) (note p y) → p < suc b
lt_if b p y None notes below c = let l = below c in omega arith
lt_if b p y (Some x) notes below c =
    ⊎_elim (λ (e : note b (shared x) ≡ note p y). let s : b ≡ p = ap (λ (t : PartNote). t.part) e in omega arith)
    (λ (t : Contains notes (note p y)). let l = below t in omega arith)
    (cons_cases (note b (shared x)) notes (note p y) c)

-- the notes below b are notes of parts below b
pub notes_below_lt : (previous : List (Option Pointer)) (b p : ℕ) (y : Option NumberSet)
    → Contains (notes_below previous b) (note p y) → p < b
notes_below_lt previous zero p y h =
    absurd (nothing_in_empty_list (note p y) (subst (λ (l : List (PartNote)). Contains l (note p y)) (notes_none previous) h))
notes_below_lt previous (suc b) p y h =
    lt_if b p y (slot_at previous b) (notes_below previous b) (notes_below_lt previous b p y)
    (subst (λ (l : List (PartNote)). Contains l (note p y)) (notes_next previous b) h)

pub not_below : (previous : List (Option Pointer)) (b : ℕ) (y : Option NumberSet)
    → ¬ Contains (notes_below previous b) (note b y)
not_below previous b y h = let l = notes_below_lt previous b b y h in omega arith

-- if slot b has a content, the notes below b + 1 begin with it
pub notes_some : (previous : List (Option Pointer)) (b : ℕ) (x : Pointer) → slot_at previous b ≡ Some x
    → notes_below previous (suc b) ≡ note b (shared x) ∷ notes_below previous b
notes_some previous b x e = notes_next previous b ∙ ap (λ (o : Option Pointer). note_if b o (notes_below previous b)) e

pub notes_without : (previous : List (Option Pointer)) (b : ℕ) → slot_at previous b ≡ None
    → notes_below previous (suc b) ≡ notes_below previous b
notes_without previous b e = notes_next previous b ∙ ap (λ (o : Option Pointer). note_if b o (notes_below previous b)) e

pub next_note : (init v : ClientView) (contents : List (Option Pointer)) (b c : ℕ) (x : Pointer)
    → v ≡ with_holds init (notes_below contents b) → b ≡ suc c → slot_at contents c ≡ Some x
    → v.holds ≡ note c (shared x) ∷ notes_below contents c
next_note init v contents b c x is up some = (λ i. (is i).holds) ∙ ap (notes_below contents) up
    ∙ notes_some contents c x some

pub given_back : (init v w : ClientView) (contents after : List (Option Pointer)) (b c : ℕ) (x : Pointer)
    → v ≡ with_holds init (notes_below contents b) → b ≡ suc c → slot_at contents c ≡ Some x
    → after ≡ set contents c None → w ≡ with_holds v (rest_of_list v.holds) → w ≡ with_holds init (notes_below after c)
given_back init v w contents after b c x is up some taken gave =
    let left : rest_of_list v.holds ≡ notes_below after c =
    ap (rest_of_list {A = PartNote}) (next_note init v contents b c x is up some)
    ∙ sym (notes_set contents c c None (le_refl c))
    ∙ ap (λ (l : List (Option Pointer)). notes_below l c) (sym taken) in
    gave ∙ (λ i. with_holds (is i) (left i))

pub notes_below_empty_slot : (init v : ClientView) (contents after : List (Option Pointer)) (b c : ℕ)
    → v ≡ with_holds init (notes_below contents b) → b ≡ suc c → slot_at contents c ≡ None
    → after ≡ set contents c None → v ≡ with_holds init (notes_below after c)
notes_below_empty_slot init v contents after b c is up none taken = is
    ∙ ap (with_holds init)
    (ap (notes_below contents) up ∙ notes_without contents c none ∙ sym (notes_set contents c c None (le_refl c))
    ∙ ap (λ (l : List (Option Pointer)). notes_below l c) (sym taken))

pub all_slots_given : (init : ClientView) (me : Me (Option Pointer) ClientView) (contents : List (Option Pointer)) (b : ℕ)
    → me.0 ≡ with_holds init (notes_below contents b) → b ≤ 0 → IsCarried me
    → (let none : Me (Option Pointer) ClientView = (with_holds init [], []) in me ≡ none)
all_slots_given init me contents b is low carried =
    let zero_is : b ≡ 0 = omega arith in
    let now : me.0 ≡ with_holds init [] = is
    ∙ ap (with_holds init) (ap (notes_below contents) zero_is ∙ notes_none contents) in
    let none : me.1 ≡ [] = no_entries_of_no_keys me.1 (carried ∙ ap (λ (v : ClientView). map table_index (parts_of_notes v.holds)) now) in
    λ i. (now i, none i)

-- if there is no content from b on, the notes are those below b
pub notes_upto : (previous : List (Option Pointer)) (b d : ℕ) → ((k : ℕ) → b ≤ k → slot_at previous k ≡ None)
    → notes_below previous (b + d) ≡ notes_below previous b
notes_upto previous b zero none = ap (notes_below previous) (add-zero b)
notes_upto previous b (suc d) none = let up : b + suc d ≡ suc (b + d) = omega arith in ap (notes_below previous) up
    ∙ notes_without previous (b + d) (none (b + d) (omega arith)) ∙ notes_upto previous b d none

-- every held part is noted below the end of the pointers
pub held_parts_below : (v : ClientView) (slots : List (Option Pointer)) (b : ℕ) → v.holds ≡ notes_below slots 12 → b ≤ 12
    → ((k : ℕ) → b ≤ k → slot_at slots k ≡ None) → v ≡ with_holds v (notes_below slots b)
held_parts_below v slots b is within none =
    let below : v.holds ≡ notes_below slots b = is
    ∙ sym (ap (notes_below slots) (let e : b + (12 - b) ≡ 12 = omega arith in e)) ∙ notes_upto slots b (12 - b) none in
    λ i. with_holds v (below i)

pub start_parts : (v w : ClientView) (previous : List (Option Pointer)) → w ≡ v → v.holds ≡ []
    → w ≡ with_parts v (notes_below previous 0)
start_parts v w previous same idle = same
    ∙ (λ i. record { start = v.start; clients = v.clients; mine = v.mine; others = v.others; holds = idle i })
    ∙ ap (with_parts v) (sym (notes_none previous))

pub view_with_taken_part : (init v w : ClientView) (previous after : List (Option Pointer)) (b c : ℕ) (x : Pointer)
    → v ≡ with_parts init (notes_below previous b) → c ≡ suc b → w ≡ with_part v b (shared x)
    → after ≡ set previous b (Some x) → b < length previous → w ≡ with_parts init (notes_below after c)
view_with_taken_part init v w previous after b c x is up taken_part put long =
    let same : notes_below after c ≡ note b (shared x) ∷ notes_below previous b =
    (λ i. notes_below (put i) (up i)) ∙ notes_some (set previous b (Some x)) b x (place_set_same previous b (Some x) long)
    ∙ ap (λ (l : List (PartNote)). note b (shared x) ∷ l) (notes_set previous b b (Some x) (le_refl b)) in
    taken_part ∙ ap (λ (u : ClientView). with_part u b (shared x)) is ∙ ap (with_parts init) (sym same)

pub touched_so_far : (op : List Command) (previous after : List (Option Pointer)) (b c : ℕ) (x : Pointer)
    → ((k : ℕ) → k < b → is_some (slot_at previous k) ≡ footprint_of_all op k) → c ≡ suc b → footprint_of_all op b ≡ true
    → after ≡ set previous b (Some x) → b < length previous → (k : ℕ) → k < c
    → is_some (slot_at after k) ≡ footprint_of_all op k
touched_so_far op previous after b c x so_far up touched put long k l = dite (ℕ_discrete k b)
    (λ e. ap (λ (z : List (Option Pointer)). is_some (slot_at z k)) put
    ∙ ap (λ (j : ℕ). is_some (slot_at (set previous b (Some x)) j)) e
    ∙ ap (λ (o : Option Pointer). is_some o) (place_set_same previous b (Some x) long) ∙ sym touched
    ∙ ap (footprint_of_all op) (sym e))
    (λ ne. ap (λ (z : List (Option Pointer)). is_some (slot_at z k)) put
    ∙ ap (λ (o : Option Pointer). is_some o) (place_set_other previous b k (Some x) ne) ∙ so_far k (omega arith))

-- skipping parts without a pointer does not change the view
pub parts_before_slot : (init v : ClientView) (previous : List (Option Pointer)) (n b : ℕ)
    → v ≡ with_parts init (notes_below previous n) → n ≤ b → ((k : ℕ) → n ≤ k → slot_at previous k ≡ None)
    → v ≡ with_parts init (notes_below previous b)
parts_before_slot init v previous n b is le none = let e : n + (b - n) ≡ b = omega arith in is
    ∙ ap (with_parts init) (sym (notes_upto previous n (b - n) none) ∙ ap (notes_below previous) e)

pub parts_so_far : (op : List Command) (previous : List (Option Pointer)) (n b : ℕ)
    → ((k : ℕ) → k < n → is_some (slot_at previous k) ≡ footprint_of_all op k)
    → ((k : ℕ) → n ≤ k → slot_at previous k ≡ None) → ((k : ℕ) → n ≤ k → k < b → footprint_of_all op k ≡ false)
    → (k : ℕ) → k < b → is_some (slot_at previous k) ≡ footprint_of_all op k
parts_so_far op previous n b so_far none lacks k l = elim (cases_lt k n) [
  | inl behind ↦ so_far k behind
  | inr here ↦ ap (λ (o : Option Pointer). is_some o) (none k here) ∙ sym (lacks k here l)
]

pub slots_empty_after : (previous after : List (Option Pointer)) (b c : ℕ) (x : Pointer)
    → ((k : ℕ) → b ≤ k → slot_at previous k ≡ None) → c ≡ suc b → after ≡ set previous b (Some x) → (k : ℕ) → c ≤ k
    → slot_at after k ≡ None
slots_empty_after previous after b c x beyond up put k l = ap (λ (z : List (Option Pointer)). slot_at z k) put
    ∙ place_set_other previous b k (Some x) (λ e. omega arith) ∙ beyond k (omega arith)

place_if : (previous : List (Option Pointer)) (b p : ℕ) (y : Option NumberSet) (o : Option Pointer) → slot_at previous b ≡ o
    → (Contains (notes_below previous b) (note p y) → (x : Pointer) × (slot_at previous p ≡ Some x) × (shared x ≡ y))
    → Contains (note_if b o (notes_below previous b)) (note p y) → (x : Pointer) × (slot_at previous p ≡ Some x)
    × (shared x ≡ y)
place_if previous b p y None e below h = below h
place_if previous b p y (Some x) e below h = ⊎_elim
    (λ (s : note b (shared x) ≡ note p y).
    (x, ap (slot_at previous) (sym (ap (λ (t : PartNote). t.part) s)) ∙ e, ap (λ (t : PartNote). t.content) s))
    (λ (t : Contains (notes_below previous b) (note p y)). below t)
    (cons_cases (note b (shared x)) (notes_below previous b) (note p y) h)

slot_of_contained_note : (b : ℕ) (o : Option Pointer) (notes : List (PartNote)) (t : PartNote) → Contains notes t
    → Contains (note_if b o notes) t
slot_of_contained_note b None notes t h = h
slot_of_contained_note b (Some x) notes t h = there (note b (shared x)) notes t h

-- a note comes from a content
pub note_place : (previous : List (Option Pointer)) (n p : ℕ) (y : Option NumberSet)
    → Contains (notes_below previous n) (note p y) → (x : Pointer) × (slot_at previous p ≡ Some x) × (shared x ≡ y)
note_place previous zero p y h =
    absurd (nothing_in_empty_list (note p y) (subst (λ (l : List (PartNote)). Contains l (note p y)) (notes_none previous) h))
note_place previous (suc b) p y h =
    place_if previous b p y (slot_at previous b) refl (note_place previous b p y)
    (subst (λ (l : List (PartNote)). Contains l (note p y)) (notes_next previous b) h)

pub place_note : (previous : List (Option Pointer)) (n p : ℕ) (x : Pointer) → p < n → slot_at previous p ≡ Some x
    → Contains (notes_below previous n) (note p (shared x))
place_note previous zero p x l e = absurd (omega arith)
place_note previous (suc b) p x l e = dite (ℕ_discrete p b)
    (λ same. subst (λ (l : List (PartNote)). Contains l (note p (shared x)))
    (sym (notes_some previous b x (ap (slot_at previous) (sym same) ∙ e)))
    (subst (λ (j : ℕ). Contains (note b (shared x) ∷ notes_below previous b) (note j (shared x))) (sym same)
    (here (note b (shared x)) (notes_below previous b))))
    (λ ne. subst (λ (l : List (PartNote)). Contains l (note p (shared x))) (sym (notes_next previous b))
    (slot_of_contained_note b (slot_at previous b) (notes_below previous b) (note p (shared x))
    (place_note previous b p x (omega arith) e)))

-- each note is that of a part in the footprint
pub slot_index_of_note : (op : List Command) (previous : List (Option Pointer)) (n p : ℕ) (y : Option NumberSet)
    → ((k : ℕ) → k < n → is_some (slot_at previous k) ≡ footprint_of_all op k) → Contains (notes_below previous n) (note p y)
    → footprint_of_all op p ≡ true
slot_index_of_note op previous n p y so_far h = let q = note_place previous n p y h in
    sym (so_far p (notes_below_lt previous n p y h)) ∙ ap (λ (o : Option Pointer). is_some o) q.1

pub holds_below : (init v w : ClientView) (previous : List (Option Pointer)) (b h : ℕ)
    → v ≡ with_parts init (notes_below previous b) → w ≡ with_miss v h b → b < 12
    → ((k : ℕ) → b ≤ k → slot_at previous k ≡ None) → w.holds ≡ notes_below previous 12
holds_below init v w previous b h is misses_are_marks within beyond =
    (λ i. (misses_are_marks i).holds) ∙ (λ i. (is i).holds) ∙ sym (notes_upto previous b (12 - b) beyond)
    ∙ ap (notes_below previous) (let e : b + (12 - b) ≡ 12 = omega arith in e)

pub view_unchanged_if_refused : (init v w u : ClientView) (previous : List (Option Pointer)) (b h : ℕ)
    → v ≡ with_parts init (notes_below previous b) → w ≡ with_miss v h b → u ≡ with_holds w []
    → u ≡ with_holds (with_miss (with_parts init (notes_below previous b)) h b) []
view_unchanged_if_refused init v w u previous b h is misses_are_marks gave = gave
    ∙ ap (λ (x : ClientView). with_holds x []) (misses_are_marks ∙ ap (λ (x : ClientView). with_miss x h b) is)

pub holder_known_before : (init v : ClientView) (notes : List (PartNote)) (h : ℕ) → v ≡ with_parts init notes → (h < v.clients)
    → ¬ StandsFor v.mine h → (h < init.clients) × ¬ StandsFor init.mine h
holder_known_before init v notes h is below apart =
    subst (λ (x : ClientView). (h < x.clients) × ¬ StandsFor x.mine h) is (below, apart)

note_of : (ts : List (PartNote)) (b : ℕ) → Contains (parts_of_notes ts) b → (y : Option NumberSet) × Contains ts (note b y)
note_of [] b h = absurd (nothing_in_empty_list b h)
note_of (t ∷ ts) b h = ⊎_elim
    (λ (e : t.part ≡ b). (t.content, subst (λ (c : ℕ). Contains (t ∷ ts) (note c t.content)) e (here t ts)))
    (λ (c : Contains (parts_of_notes ts) b). let r = note_of ts b c in (r.0, there t ts (note b r.0) r.1))
    (cons_cases t.part (parts_of_notes ts) b h)

-- after the last pointer is removed, there is no pointer from its index on
pub none_from : (contents after : List (Option Pointer)) (b : ℕ) → b < length contents
    → ((k : ℕ) → b < k → slot_at contents k ≡ None) → after ≡ set contents b None → (k : ℕ) → b ≤ k
    → slot_at after k ≡ None
none_from contents after b word_count behind taken k l =
    ap (λ (z : List (Option Pointer)). slot_at z k) taken ∙ off (ℕ_discrete k b)
  where
    off : Dec (k ≡ b) → slot_at (set contents b None) k ≡ None
    off (yes e) = ap (slot_at (set contents b None)) e ∙ place_set_same contents b None word_count
    off (no ne) = place_set_other contents b k None ne ∙ behind k (omega arith)

-- the content at the highest index is noted first
pub top_note : (contents after : List (Option Pointer)) (b : ℕ) (x : Pointer) → b < 12 → b < length contents
    → ((k : ℕ) → b < k → slot_at contents k ≡ None) → slot_at contents b ≡ Some x → after ≡ set contents b None
    → notes_below contents 12 ≡ note b (shared x) ∷ notes_below after 12
top_note contents after b x within word_count behind some taken =
    let rest : notes_below after 12 ≡ notes_below contents b =
    sym (ap (notes_below after) (let e : b + (12 - b) ≡ 12 = omega arith in e))
    ∙ notes_upto after b (12 - b) (none_from contents after b word_count behind taken)
    ∙ ap (λ (z : List (Option Pointer)). notes_below z b) taken ∙ notes_set contents b b None (le_refl b) in
    sym (ap (notes_below contents) (let e : suc b + (11 - b) ≡ 12 = omega arith in e))
    ∙ notes_upto contents (suc b) (11 - b) (λ k l. behind k l) ∙ notes_some contents b x some
    ∙ ap (λ (l : List (PartNote)). note b (shared x) ∷ l) (sym rest)

pub no_note_of_empty_slot : (after : List (Option Pointer)) (n b : ℕ) → slot_at after b ≡ None
    → Contains (parts_of_notes (notes_below after n)) b → ⊥
no_note_of_empty_slot after n b none h = let q = note_of (notes_below after n) b h in let p = note_place after n b q.0 q.1 in
    let clash : Some p.0 ≡ None = sym p.1 ∙ none in absurd (cc)

pub part_note : (ts : List PartNote) (b : ℕ) (y : Option NumberSet) → Contains ts (note b y) → Contains (parts_of_notes ts) b
part_note [] b y h = absurd (nothing_in_empty_list (note b y) h)
part_note (t ∷ ts) b y h = ⊎_elim
    (λ (e : t ≡ note b y). subst (λ (c : ℕ). Contains (parts_of_notes (t ∷ ts)) c) (ap (λ (z : PartNote). z.part) e)
    (here t.part (parts_of_notes ts)))
    (λ (c : Contains ts (note b y)). there t.part (parts_of_notes ts) b (part_note ts b y c))
    (cons_cases t ts (note b y) h)

-- one more part gets its pointer, to its new list if there is one
pub shared_next : (previous edited after : List (Option Pointer)) (old now : List (Option NumberSet)) (n b : ℕ)
    (p new : Pointer) (taken : Option NumberSet)
    → ((k : ℕ) → k < n → content (slot_at edited k) ≡ changed_content (get_or old k None) (content (slot_at previous k)))
    → b ≡ n → b < length edited → after ≡ set edited b (Some new) → taken ≡ get_or now b None
    → get_or now n None ≡ get_or old n None → slot_at previous b ≡ Some p
    → arc_value new ≡ unwrap_or taken (arc_value p) → (k : ℕ) → k < n + 1
    → content (slot_at after k) ≡ changed_content (get_or old k None) (content (slot_at previous k))
shared_next previous edited after old now n b p new taken so_far at word_count put was same there is k l = elim (cases_lt k n) [
  | inl below ↦ ap (λ (z : List (Option Pointer)). content (slot_at z k)) put
      ∙ ap content (place_set_other edited b k (Some new) (λ e. omega arith)) ∙ so_far k below
  | inr here ↦
      let e : b ≡ k = omega arith in
      let from : taken ≡ get_or old b None = was ∙ ap (λ (j : ℕ). get_or now j None) at ∙ same
      ∙ ap (λ (j : ℕ). get_or old j None) (sym at) in
      subst (λ (j : ℕ). content (slot_at after j) ≡ changed_content (get_or old j None) (content (slot_at previous j))) e
      (ap (λ (z : List (Option Pointer)). content (slot_at z b)) put
      ∙ ap content (place_set_same edited b (Some new) word_count) ∙ ap (λ (a : NumberSet). Some a) is
      ∙ (λ i. changed_content (from i) (content (sym there i))))
]

-- a part without a pointer gets no pointer
pub shared_not : (previous edited : List (Option Pointer)) (old : List (Option NumberSet)) (n : ℕ)
    → ((k : ℕ) → k < n → content (slot_at edited k) ≡ changed_content (get_or old k None) (content (slot_at previous k)))
    → slot_at edited n ≡ None → slot_at previous n ≡ None → (k : ℕ) → k < n + 1
    → content (slot_at edited k) ≡ changed_content (get_or old k None) (content (slot_at previous k))
shared_not previous edited old n so_far empty_slots none k l = elim (cases_lt k n) [
  | inl below ↦ so_far k below
  | inr here ↦
      let e : n ≡ k = omega arith in
      subst (λ (j : ℕ). content (slot_at edited j) ≡ changed_content (get_or old j None) (content (slot_at previous j))) e
      (ap content empty_slots ∙ sym (ap (λ (o : Option Pointer). changed_content (get_or old n None) (content o)) none))
]
