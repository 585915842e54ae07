-- Sets within one part, and commands whose footprint is a single part.
use Rattle.std.proofs.Common.{◌≡◌, ℕ, ◌+◌, ◌/◌, ◌<◌, ◌≤◌, true, false, ◌&&◌, List, Option, None, Some, MatchOption, Result, Ok, Err, OnOk, OnErr, length, get_or, inl, inr, refl, sym, ap, subst, ◌∙◌, arith, eq-eqb, eqb-true}
use Rattle.std.specs.Prelude.{is_some, nat_eq, nat_lt, set as set_at}
use Rattle.std.specs.FinSet as set
use Rattle.std.proofs.lemmas.Bool.{cases_Bool, cases_eq}
use Rattle.std.proofs.lemmas.Bool.Decides.{nat_tests}
use Rattle.std.proofs.lemmas.List.{ext_get_or, length-set, set-get_or, get_or-set_same, get_or-set_other}
use Rattle.moc_lists.specs.RangeList.{NumberSet}
use Rattle.moc_lists.specs.Lemmas.Members.{same_members}
use Rattle.moc_ranges.specs.Lemmas.Members.{contains-part_of}
use Rattle.moc_ranges.specs.Operations.{base_pixel_size, pixels, part_of, IsWithin}
use Rattle.moc_ranges.specs.declared.errors.Memory.{Memory}
use Rattle.moc_parts.specs.Objects.{IsLocal}
use Rattle.moc_parts.specs.Commands.{commands, parts_met, reply_on, set_after, NeedsOnly}
use Rattle.moc_parts.specs.Lemmas.SingleParts.{part_after, other_after, same_reply}
use Rattle.moc_parts.specs.Parts.{union_of, parts_below}
use Rattle.moc_parts.specs.Private.Drafts.{AreParts}
use Rattle.moc_parts.specs.declared.command.Command.{Command}
use Rattle.moc_parts.specs.declared.reply.Reply.{Reply}
use Rattle.moc_parts.proofs.Members as members
use Rattle.moc_parts.proofs.ChangedPixels.{equal_if_no_difference, changed_pixels-union, changed_pixels-difference}
use Rattle.moc_parts.proofs.Counts.{parts_met_some}
use Rattle.moc_parts.proofs.Locality.{command_local}
use Rattle.moc_parts.proofs.Twelve.{parts_within, parts_length, get-parts, get-parts_below, length-parts_below, parts_below_are_parts}

-- ---- the part that contains a set

eq_true : (a b : ℕ) → a ≡ b → nat_eq a b ≡ true
eq_true a b e = grind (arith, nat_tests)

none_past : (next : Option ℕ) (k : ℕ) → is_some next ≡ false → MatchOption next ⊥ (λ c. c ≤ k) → ⊥
none_past None k none past = past
none_past (Some c) k none past = members.absurd_bool true refl none

contained_in_single_part : (a : NumberSet) (b q : ℕ) (next : Option ℕ) → ((k : ℕ) → nat_lt 0 (set.len (part_of a k)) ≡ true → b ≤ k) → ((k : ℕ) → b + 1 ≤ k → nat_lt 0 (set.len (part_of a k)) ≡ true → MatchOption next ⊥ (λ c. c ≤ k)) → is_some next ≡ false → set.contains a q ≡ true → q / base_pixel_size ≡ b
contained_in_single_part a b q next first later none has =
    let k : ℕ = q / base_pixel_size in
    let some = members.is_some (part_of a k) q (members.in_part a k q has refl) in
    let low : b ≤ k = first k some in
    elim (cases_eq (q / base_pixel_size) b) [
      | inl same ↦ same
      | inr other ↦ absurd (none_past next k none (later k (omega arith) some))
    ]

pub single_part_is_whole : (a : NumberSet) (b : ℕ) (next : Option ℕ) → ((k : ℕ) → nat_lt 0 (set.len (part_of a k)) ≡ true → b ≤ k) → ((k : ℕ) → b + 1 ≤ k → nat_lt 0 (set.len (part_of a k)) ≡ true → MatchOption next ⊥ (λ c. c ≤ k)) → is_some next ≡ false → part_of a b ≡ a
single_part_is_whole a b next first later none = same_members _ _ (λ q. contains-part_of a b q ∙ elim (cases_Bool (set.contains a q)) [
  | inl has ↦ (λ i. has i && eq_true (q / base_pixel_size) b (contained_in_single_part a b q next first later none has) i) ∙ sym has
  | inr lacks ↦ ap (λ t. t && nat_eq (q / base_pixel_size) b) lacks ∙ sym lacks
])

-- a set that is within one part has pixels only in that part
pub parts_met_is_single : (a : NumberSet) (b k : ℕ) → part_of a b ≡ a → nat_lt 0 (set.len (part_of a b)) ≡ true → (a ≡ set.empty → ⊥) → parts_met a k ≡ nat_eq b k
parts_met_is_single a b k lies has some = parts_met_some a k some ∙ members.same_test _ _
    (λ h.
    let m = members.some_member (part_of a k) h in
    let there = members.of_part a k m.0 m.1 in
    let here = members.of_part a b m.0 (ap (λ s. set.contains s m.0) lies ∙ there.0) in
    eq-eqb b k (sym here.1 ∙ there.1))
    (λ h. ap (λ n. nat_lt 0 (set.len (part_of a n))) (sym (eqb-true b k h)) ∙ has)

-- ---- executing a command on the list of its single part

module _ (c : Command) (b : ℕ) (needs : NeedsOnly c b) (sets : List NumberSet) (are : AreParts sets) (lt : b < 12) where
  abbrev before : NumberSet
  before = union_of sets

  abbrev after : NumberSet
  after = set_after before c

  local : IsLocal commands c
  local = command_local c needs.valid

  -- the result is within the sky
  pub after_within : IsWithin after pixels
  after_within = local.stays before (parts_within sets are)

  -- the lists with the new list of the part are the parts of the new set
  pub entry_is_new : (old new : NumberSet) → old ≡ part_of before b → new ≡ set_after old c → set_at sets b new ≡ parts_below after 12
  entry_is_new old new was is =
      let there : new ≡ part_of after b = is ∙ ap (λ (s : NumberSet). set_after s c) was
      ∙ part_after commands c b needs.met local before (parts_within sets are) in
      let many : length sets ≡ 12 = parts_length sets are in
      ap (λ s. set_at sets b s) there
      ∙ ext_get_or set.empty (set_at sets b (part_of after b)) (parts_below after 12)
      (length-set sets b (part_of after b) ∙ many ∙ sym (length-parts_below after 12))
      (λ k l.
      let small : k < 12 = subst (λ n. k < n) (length-set sets b (part_of after b) ∙ many) l in
      elim (cases_eq k b) [
        | inl same ↦ ap (λ n. get_or (set_at sets b (part_of after b)) n set.empty) same
            ∙ get_or-set_same sets b (part_of after b) set.empty (subst (λ n. b < n) (sym many) lt)
            ∙ ap (λ n. part_of after n) (sym same) ∙ sym (get-parts_below after 12 k set.empty small)
        | inr other ↦ get_or-set_other sets b k (part_of after b) set.empty other ∙ get-parts sets k set.empty are small
            ∙ sym (other_after commands c b needs.met local before k other (parts_within sets are))
            ∙ sym (get-parts_below after 12 k set.empty small)
      ])

  -- the lists are parts, whether the command was executed or an allocation failed
  pub parts_after : (r : Result Reply Memory) (d old new : NumberSet) → old ≡ get_or sets b d → OnOk r (new ≡ set_after old c) → OnErr r (new ≡ old) → AreParts (set_at sets b new)
  parts_after (Ok x) d old new at ok err =
      parts_below_are_parts (set_at sets b new) after (entry_is_new old new (at ∙ get-parts sets b d are lt) ok) after_within
  parts_after (Err e) d old new at ok err =
      subst AreParts (sym (ap (λ s. set_at sets b s) (err ∙ at) ∙ set-get_or sets b d)) are

  -- the reply on the list of the part is the reply on the whole set
  pub reply_there : (old : NumberSet) → old ≡ part_of before b → reply_on old c ≡ reply_on before c
  reply_there old was = ap (λ (s : NumberSet). reply_on s c) was
      ∙ sym (same_reply commands c b needs.met local before (parts_within sets are))

-- ---- counts that state no change

pub no_addition : (a s new : NumberSet) (n : ℕ) → new ≡ set.union a s → n ≡ set.len (set.difference s a) → nat_eq n 0 ≡ true → new ≡ a
no_addition a s new n is counted t =
    is ∙ equal_if_no_difference (set.union a s) a (ap set.len (changed_pixels-union a s) ∙ sym counted ∙ eqb-true n 0 t)

pub no_removal : (a s new : NumberSet) (n : ℕ) → new ≡ set.difference a s → n ≡ set.len (set.intersection a s) → nat_eq n 0 ≡ true → new ≡ a
no_removal a s new n is counted t =
    is ∙ equal_if_no_difference (set.difference a s) a (ap set.len (changed_pixels-difference a s) ∙ sym counted ∙ eqb-true n 0 t)
