-- The results of `prepare_changes` and of a query are the effect of the batch.
use Rattle.std.proofs.Common.{◌≡◌, ℕ, zero, suc, ◌<◌, ◌/◌, ◌&&◌, Bool, true, false, true≢false, nat_eq, List, []}
use Rattle.std.proofs.Common.{◌∷◌, length, refl, sym, ap, ◌∙◌, subst, inl, inr, arith, Option, Some, None, is_some}
use Rattle.std.proofs.Common.{get_or, eq-eqb, ne_eqb, Contains}
use native.Mathlib.Decide.{ℕ_discrete}
use Rattle.std.proofs.lemmas.Bool.{cases_lt, cases_Bool}
use Rattle.std.specs.List.{list_any}
use Rattle.std.specs.Option.{unwrap_or}
use Rattle.std.specs.FinSet as finset
use Rattle.moc_lists.specs.RangeList.{NumberSet}
use Rattle.moc_lists.specs.Lemmas.Members.{same_members}
use Rattle.moc_ranges.specs.Lemmas.Members.{contains-part_of}
use Rattle.moc_ranges.specs.Operations.{base_pixel_size, pixels, part_of, IsWithin}
use Rattle.moc_parts.specs.Objects.{IsLocal, AgreeOn, base_pixel}
use Rattle.moc_parts.specs.Parts.{union_of}
use Rattle.moc_parts.specs.Commands.{is_update}
use Rattle.moc_parts.specs.Batches.{batches, footprint_of_all, set_after_all, AreCommands}
use Rattle.moc_parts.specs.Theorems.{BatchesAreLocal, QueriesLeaveTheSet}
use Rattle.moc_parts.specs.Prepared.{AreChanges, AreRepliesTo, Preparation, part_if, content_or_empty}
use Rattle.moc_parts.specs.declared.command.Command.{Command}
use Rattle.moc_parts.specs.declared.reply.Reply.{Reply}
use Rattle.moc_shared.specs.Seats.{note, Pointer}
use Rattle.moc_shared.specs.Private.Invariant.{parts_of_notes}
use Rattle.moc_shared.specs.Private.Seats.{PartNote, content, shared, part, IsInSky, slot_at, note_if, notes_below, list_of, AreWithinOwnParts, IsFootprint}
use Rattle.moc_shared.specs.Private.Slots.{changed_content, lists_of, AreCopies, Edits, replies_to}
use Rattle.moc_shared.specs.Batches.{batch_answer}
use Rattle.moc_shared.proofs.Basics.{nothing_in_empty_list}
use Rattle.moc_shared.proofs.SlotIndices.{notes_none, notes_next, notes_upto, note_place, place_note, notes_below_lt}
use Rattle.moc_shared.proofs.SlotIndices.{part_note}
use Rattle.moc_shared.proofs.Unions.{union_at, union_within, in_sky, get_beyond, and_true}

pub some_is : (o : Option Pointer) → is_some o ≡ true → (x : Pointer) × (o ≡ Some x)
some_is (Some x) e = (x, refl)
some_is None e = absurd (true≢false (sym e))

none_is : (o : Option Pointer) → is_some o ≡ false → o ≡ None
none_is (Some x) e = absurd (true≢false e)
none_is None e = refl

some_content : (s : Option Pointer) → is_some (content s) ≡ is_some s
some_content (Some p) = refl
some_content None = refl

-- slots with pointers at the same indices have notes of the same parts
step_parts : (n : ℕ) (o u : Option Pointer) (xs ys : List PartNote) → is_some o ≡ is_some u → parts_of_notes xs ≡ parts_of_notes ys
    → parts_of_notes (note_if n o xs) ≡ parts_of_notes (note_if n u ys)
step_parts n (Some x) (Some y) xs ys same below = ap (λ (l : List ℕ). n ∷ l) below
step_parts n (Some x) None xs ys same below = absurd (true≢false same)
step_parts n None (Some y) xs ys same below = absurd (true≢false (sym same))
step_parts n None None xs ys same below = below

pub parts_same : (xs ys : List (Option Pointer)) (n : ℕ)
    → ((b : ℕ) → b < n → is_some (slot_at xs b) ≡ is_some (slot_at ys b))
    → parts_of_notes (notes_below xs n) ≡ parts_of_notes (notes_below ys n)
parts_same xs ys zero each = ap (λ (l : List PartNote). parts_of_notes l) (notes_none xs ∙ sym (notes_none ys))
parts_same xs ys (suc n) each =
    ap (λ (l : List PartNote). parts_of_notes l) (notes_next xs n)
    ∙ step_parts n (slot_at xs n) (slot_at ys n) (notes_below xs n) (notes_below ys n) (each n (omega arith))
    (parts_same xs ys n (λ b l. each b (omega arith)))
    ∙ sym (ap (λ (l : List PartNote). parts_of_notes l) (notes_next ys n))

step_notes : (n : ℕ) (o u : Option Pointer) (xs ys : List PartNote) → content o ≡ content u → xs ≡ ys
    → note_if n o xs ≡ note_if n u ys
step_notes n (Some x) (Some y) xs ys same below = λ i. note n (same i) ∷ below i
step_notes n (Some x) None xs ys same below = absurd (cc)
step_notes n None (Some y) xs ys same below = absurd (cc)
step_notes n None None xs ys same below = below

-- copies have the same notes as the originals
pub notes_same : (xs ys : List (Option Pointer)) (n : ℕ) → AreCopies xs ys → notes_below ys n ≡ notes_below xs n
notes_same xs ys zero each = notes_none ys ∙ sym (notes_none xs)
notes_same xs ys (suc n) each = notes_next ys n
    ∙ step_notes n (slot_at ys n) (slot_at xs n) (notes_below ys n) (notes_below xs n) (each n)
    (notes_same xs ys n each) ∙ sym (notes_next xs n)

some_is_injective : (a b : NumberSet) → Some a ≡ Some b → a ≡ b
some_is_injective a b e = cc

-- the set of a slot with a note
list_of_note : (slots : List (Option Pointer)) (b : ℕ) (a : NumberSet) → b < 12 → is_some (slot_at slots b) ≡ true
    → ((c : ℕ) (y : Option NumberSet) → Contains (notes_below slots 12) (note c y) → y ≡ part c a)
    → list_of (slot_at slots b) ≡ part_of a b
unfolding part
list_of_note slots b a l some noted =
    let s = some_is (slot_at slots b) some in
    let e : Some _ ≡ Some (part_of a b) = noted b (shared s.0) (place_note slots 12 b s.0 l s.1) in
    ap list_of s.1 ∙ some_is_injective _ (part_of a b) e

-- a set agrees with the taken contents in the footprint if it agrees with the notes
pub slots_agree_on_footprint : (cs : List Command) (slots : List (Option Pointer)) (a : NumberSet) → length slots ≡ 12 → AreWithinOwnParts slots
    → IsFootprint cs slots → IsInSky a
    → ((b : ℕ) (y : Option NumberSet) → Contains (notes_below slots 12) (note b y) → y ≡ part b a)
    → AgreeOn (footprint_of_all cs) (union_of (lists_of slots)) a
unfolding base_pixel
slots_agree_on_footprint cs slots a long own set_is_valid within noted q touched = elim (cases_lt (q / base_pixel_size) 12) [
  | inl l ↦
      let b : ℕ = q / base_pixel_size in
      union_at slots q own
      ∙ ap (λ (s : NumberSet). finset.contains s q) (list_of_note slots b a l (set_is_valid b l ∙ touched) noted)
      ∙ contains-part_of a b q ∙ ap (λ (t : Bool). finset.contains a q && t) (eq-eqb b b refl)
      ∙ and_true (finset.contains a q)
  | inr far ↦
      let b : ℕ = q / base_pixel_size in
      union_at slots q own
      ∙ ap (λ (s : Option Pointer). finset.contains (list_of s) q) (get_beyond slots b (omega (arith, long, far)))
      ∙ finset.contains-empty _ q ∙ sym (in_sky a q within far)
]

and_none : (x : Bool) → (x && false) ≡ false
and_none true = refl
and_none false = refl

-- two sets in the sky with the same pixels outside the footprint have the same parts there
pub same_part : (cs : List Command) (slots : List (Option Pointer)) (a b : NumberSet) → IsFootprint cs slots
    → IsWithin a pixels → IsWithin b pixels
    → ((q : ℕ) → footprint_of_all cs (base_pixel q) ≡ false → finset.contains b q ≡ finset.contains a q)
    → (k : ℕ) → ¬ Contains (parts_of_notes (notes_below slots 12)) k → part k b ≡ part k a
unfolding base_pixel part
same_part cs slots a b set_is_valid v w out k none =
    ap (λ (s : NumberSet). Some s)
    (same_members _ _
    (λ q. contains-part_of b k q ∙ one q (ℕ_discrete (q / base_pixel_size) k) ∙ sym (contains-part_of a k q)))
  where
    untouched : k < 12 → footprint_of_all cs k ≡ false
    untouched l = elim (cases_Bool (footprint_of_all cs k)) [
      | inl t ↦
          let s = some_is (slot_at slots k) (set_is_valid k l ∙ t) in
          absurd (none (part_note (notes_below slots 12) k (shared s.0) (place_note slots 12 k s.0 l s.1)))
      | inr f ↦ f
    ]

    one : (q : ℕ) → Dec (q / base_pixel_size ≡ k)
        → (finset.contains b q && nat_eq (q / base_pixel_size) k) ≡ (finset.contains a q && nat_eq (q / base_pixel_size)
        k)
    one q (yes e) = ap (λ (t : Bool). t && nat_eq (q / base_pixel_size) k) (elim (cases_lt k 12) [
      | inl l ↦ out q (ap (footprint_of_all cs) e ∙ untouched l)
      | inr far ↦ in_sky b q w (omega arith) ∙ sym (in_sky a q v (omega arith))
    ])
    one q (no ne) = ap (λ (t : Bool). finset.contains b q && t) (ne_eqb (q / base_pixel_size) k ne)
        ∙ and_none (finset.contains b q) ∙ sym (and_none (finset.contains a q))
        ∙ sym (ap (λ (t : Bool). finset.contains a q && t) (ne_eqb (q / base_pixel_size) k ne))

itself : (cs : List Command) (a : NumberSet) → AgreeOn (footprint_of_all cs) a a
itself cs a q touched = refl

pub replies_same : (cs : List Command) (slots : List (Option Pointer)) (r : List Reply) → length slots ≡ 12
    → AreWithinOwnParts slots → AreRepliesTo cs (union_of (lists_of slots)) r → r ≡ replies_to slots cs
unfolding replies_to
replies_same cs slots r long own each =
    each (union_of (lists_of slots)) (union_within slots long own) (itself cs (union_of (lists_of slots)))

part_if_some : (t : Bool) (a : NumberSet) (b : ℕ) (y : Option NumberSet) → is_some y ≡ true → y ≡ part_if t a b → y ≡ part b a
unfolding part
part_if_some true a b y some e = e
part_if_some false a b y some e = absurd (true≢false (sym some ∙ ap (λ (o : Option NumberSet). is_some o) e))

some_part_if : (t : Bool) (a : NumberSet) (b : ℕ) → is_some (part_if t a b) ≡ t
some_part_if true a b = refl
some_part_if false a b = refl

part_if_congruence : (t : Bool) (a b : NumberSet) (n : ℕ) → (t ≡ true → part_of a n ≡ part_of b n) → part_if t a n ≡ part_if t b n
part_if_congruence true a b n same = ap Some (same refl)
part_if_congruence false a b n same = refl

-- the set of a slot is the part of the union
part_of_union_is_slot : (slots : List (Option Pointer)) (b : ℕ) → AreWithinOwnParts slots
    → part_of (union_of (lists_of slots)) b ≡ list_of (slot_at slots b)
part_of_union_is_slot slots b own =
    same_members _ _ (λ q. contains-part_of set_is_valid b q ∙ one q (ℕ_discrete (q / base_pixel_size) b))
  where
    set_is_valid : NumberSet
    set_is_valid = union_of (lists_of slots)

    here : NumberSet
    here = list_of (slot_at slots b)

    one : (q : ℕ) → Dec (q / base_pixel_size ≡ b)
        → (finset.contains set_is_valid q && nat_eq (q / base_pixel_size) b) ≡ finset.contains here q
    one q (yes e) = ap (λ (t : Bool). finset.contains set_is_valid q && t) (eq-eqb (q / base_pixel_size) b e)
        ∙ and_true (finset.contains set_is_valid q) ∙ union_at slots q own
        ∙ ap (λ (k : ℕ). finset.contains (list_of (slot_at slots k)) q) e
    one q (no ne) =
        let no : nat_eq (q / base_pixel_size) b ≡ false = ne_eqb (q / base_pixel_size) b ne in
        ap (λ (t : Bool). finset.contains set_is_valid q && t) no ∙ and_none (finset.contains set_is_valid q)
        ∙ sym (and_none (finset.contains here q)) ∙ sym (ap (λ (t : Bool). finset.contains here q && t) no)
        ∙ sym (contains-part_of here b q) ∙ ap (λ (a : NumberSet). finset.contains a q) (own b)

-- the new content of a part
changed_is : (s : Option Pointer) (new : Option NumberSet) (previous after : NumberSet) (b : ℕ) (t : Bool)
    → list_of s ≡ previous → is_some s ≡ t → unwrap_or new previous ≡ part_of after b
    → changed_content new (content s) ≡ part_if t after b
changed_is (Some p) new previous after b true same some is = ap (λ (a : NumberSet). Some (unwrap_or new a)) same ∙ ap Some is
changed_is (Some p) new previous after b false same some is = absurd (true≢false some)
changed_is None new previous after b true same some is = absurd (true≢false (sym some))
changed_is None new previous after b false same some is = refl

-- the changes of the contents are the effect of the batch
pub edits_from : (cs : List Command) (previous edited : List (Option Pointer)) (p : Preparation)
    → length previous ≡ 12 → AreWithinOwnParts previous → IsFootprint cs previous → AreChanges cs (union_of (lists_of previous)) p
    → ((b : ℕ) → b < 12
    → content (slot_at edited b) ≡ changed_content (get_or p.lists b None) (content (slot_at previous b)))
    → Edits cs previous edited
unfolding batch_answer replies_to
edits_from cs previous edited p long own set_is_valid changes each =
    let u : NumberSet = union_of (lists_of previous) in
    let u_within = union_within previous long own in
    let determined = changes.determined in
    let now =
    λ (a : NumberSet) (v : IsWithin a pixels) (agree : AgreeOn (footprint_of_all cs) u a) (b : ℕ) (l : b < 12).
    let e : content (slot_at edited b) ≡ part_if (footprint_of_all cs b) (set_after_all a cs) b = each b l
    ∙ changed_is (slot_at previous b) (get_or p.lists b None) (part_of u b) (set_after_all u cs) b (footprint_of_all cs b)
    (sym (part_of_union_is_slot previous b own)) (set_is_valid b l) (changes.parts b l)
    ∙ part_if_congruence (footprint_of_all cs b) (set_after_all u cs) (set_after_all a cs) b (determined.inside a v agree b) in
    e in
    record {
      same_parts =
          parts_same edited previous 12
          (λ b l. sym (some_content (slot_at edited b))
          ∙ ap (λ (o : Option NumberSet). is_some o) (now u u_within (itself cs u) b l)
          ∙ some_part_if (footprint_of_all cs b) (set_after_all u cs) b ∙ sym (set_is_valid b l));
      effect = λ a v noted.
          let agree = slots_agree_on_footprint cs previous a long own set_is_valid v noted in (
            sym (determined.replied a v agree) ∙ determined.replied u u_within (itself cs u),
            (λ b y h.
                let q = note_place edited 12 b y h in
                let l = notes_below_lt edited 12 b y h in
                part_if_some (footprint_of_all cs b) (set_after_all a cs) b y
                (ap (λ (o : Option NumberSet). is_some o) (sym q.2))
                (sym q.2 ∙ ap content (sym q.1) ∙ now a v agree b l)),
            (λ k none. same_part cs previous a (set_after_all a cs) set_is_valid v (determined.stays a v) (determined.outside a v) k
                none),
            determined.stays a v,
          );
    }

pub copies_within_own_parts : (previous copies : List (Option Pointer)) → AreCopies previous copies → AreWithinOwnParts previous → AreWithinOwnParts copies
copies_within_own_parts previous copies same own b =
    subst (λ (o : Option NumberSet). part_of (content_or_empty o) b ≡ content_or_empty o) (sym (same b)) (own b)

pub footprint_copies : (cs : List Command) (previous copies : List (Option Pointer)) → AreCopies previous copies
    → IsFootprint cs previous → IsFootprint cs copies
footprint_copies cs previous copies same set_is_valid b l = sym (some_content (slot_at copies b))
    ∙ ap (λ (o : Option NumberSet). is_some o) (same b) ∙ some_content (slot_at previous b) ∙ set_is_valid b l

-- a query leaves the contents unchanged, and has the replies that the copies give
pub leaves : (cs : List Command) (previous copies : List (Option Pointer)) → length copies ≡ 12 → AreWithinOwnParts previous
    → IsFootprint cs previous → AreCopies previous copies → list_any is_update cs ≡ false → IsLocal batches cs
    → QueriesLeaveTheSet → Edits cs copies previous
unfolding batch_answer replies_to
leaves cs previous copies long own_found whole_found same query local unchanged =
    let own = copies_within_own_parts previous copies same own_found in
    let set_is_valid = footprint_copies cs previous copies same whole_found in
    let u : NumberSet = union_of (lists_of copies) in
    let u_within = union_within copies long own in
    record {
      same_parts = ap (λ (l : List PartNote). parts_of_notes l) (sym (notes_same previous copies 12 same));
      effect = λ a v noted. (
        local.reply a u v u_within (λ q t. sym (slots_agree_on_footprint cs copies a long own set_is_valid v noted q t)),
        (λ b y h. noted b y
            (subst (λ (l : List PartNote). Contains l (note b y)) (sym (notes_same previous copies 12 same)) h)
            ∙ ap (part b) (sym (unchanged cs query a))),
        (λ k none. ap (part k) (unchanged cs query a)),
        local.stays a v,
      );
    }

pub slot_of_note : (slots : List (Option Pointer)) (b : ℕ) → b < 12 → is_some (slot_at slots b) ≡ true
    → Contains (parts_of_notes (notes_below slots 12)) b
slot_of_note slots b l some = let s = some_is (slot_at slots b) some in
    part_note (notes_below slots 12) b (shared s.0) (place_note slots 12 b s.0 l s.1)

-- a footprint is not empty, and neither are its new contents
pub update_has_contents : (previous edited : List (Option Pointer)) (b : ℕ) → b < 12 → is_some (slot_at previous b) ≡ true
    → parts_of_notes (notes_below edited 12) ≡ parts_of_notes (notes_below previous 12) → ((k : ℕ) → slot_at edited k ≡ None) → ⊥
update_has_contents previous edited b l some same none =
    let empty : notes_below edited 12 ≡ [] = notes_upto edited 0 12 (λ k l. none k) ∙ notes_none edited in
    nothing_in_empty_list b
    (subst (λ (l : List ℕ). Contains l b) (sym same ∙ ap (λ (l : List PartNote). parts_of_notes l) empty)
    (slot_of_note previous b l some))

pub local_batch : (cs : List Command) → BatchesAreLocal → 0 < length cs → AreCommands cs → IsLocal batches cs
local_batch [] law some valid = absurd (omega arith)
local_batch (c ∷ cs) law some valid = law c cs valid

-- some part was taken, because a footprint is not empty
pub pointers_of_footprint : (cs : List Command) (previous : List (Option Pointer)) → IsFootprint cs previous → IsLocal batches cs
    → (b : ℕ) × (b < 12) × (is_some (slot_at previous b) ≡ true)
pointers_of_footprint cs previous set_is_valid local = let s = local.some in (s.0, s.1, set_is_valid s.0 s.1 ∙ s.2)
