-- Batches are local.
use Rattle.std.proofs.Common.{◌≡◌, ℕ, ◌/◌, ◌<◌, true, false, inl, inr, List, [], ◌∷◌, refl, sym, ap, subst, ◌∙◌, length, arith}
use Rattle.moc_parts.specs.Prepared.{AreRepliesTo, IsDeterminedBy}
use Rattle.std.specs.FinSet as set
use Rattle.std.proofs.lemmas.Bool.{cases_Bool}
use Rattle.moc_lists.specs.RangeList.{NumberSet}
use Rattle.moc_lists.specs.Lemmas.Members.{same_members}
use Rattle.moc_ranges.specs.Operations.{pixels, base_pixel_size, IsWithin, part_of}
use Rattle.moc_parts.specs.Objects.{IsLocal, AgreeOn, base_pixel}
use Rattle.moc_parts.specs.declared.command.Command.{Command}
use Rattle.moc_parts.specs.declared.reply.Reply.{Reply}
use Rattle.moc_parts.specs.Commands.{commands, footprint, set_after, reply_on}
use Rattle.moc_parts.specs.Batches.{batches, footprint_of_all, set_after_all, replies_on, AreCommands}
use Rattle.moc_parts.proofs.Members.{or_left, or_right, absurd_bool, not_true_false, same_test, in_part, of_part}
use Rattle.moc_parts.proofs.Locality.{command_local}

-- after one command, two sets still agree in the footprint of the batch
agree_after : (c : Command) (cs : List Command) (a b : NumberSet) → IsLocal commands c → IsWithin a pixels → IsWithin b pixels
    → AgreeOn (footprint_of_all (c ∷ cs)) a b → AgreeOn (footprint_of_all (c ∷ cs)) (set_after a c) (set_after b c)
agree_after c cs a b local v w same p f = elim (cases_Bool (footprint c (base_pixel p))) [
  | inl t ↦ local.inside a b v w (λ q g. same q (or_left _ _ g)) p t
  | inr t ↦ local.outside a v p t ∙ same p f ∙ sym (local.outside b w p t)
]

equal_replies : (cs : List Command) (a b : NumberSet) → AreCommands cs → IsWithin a pixels → IsWithin b pixels → AgreeOn (footprint_of_all cs) a b → replies_on a cs ≡ replies_on b cs
equal_replies [] a b each v w same = refl
equal_replies (c ∷ cs) a b each v w same =
    let local : IsLocal commands c = command_local c each.0 in
    ap (λ y. y ∷ replies_on (set_after a c) cs) (local.reply a b v w (λ p f. same p (or_left _ _ f)))
    ∙ ap (λ ys. reply_on b c ∷ ys) (equal_replies cs (set_after a c) (set_after b c) each.1 (local.stays a v) (local.stays b w)
    (λ p f. agree_after c cs a b local v w same p (or_right _ _ f)))

equal_sets_after : (cs : List Command) (a b : NumberSet) → AreCommands cs → IsWithin a pixels → IsWithin b pixels → (p : ℕ) → set.contains a p ≡ set.contains b p
    → AgreeOn (footprint_of_all cs) a b → set.contains (set_after_all a cs) p ≡ set.contains (set_after_all b cs) p
equal_sets_after [] a b each v w p here same = here
equal_sets_after (c ∷ cs) a b each v w p here same =
    let local : IsLocal commands c = command_local c each.0 in
    equal_sets_after cs (set_after a c) (set_after b c) each.1 (local.stays a v) (local.stays b w) p
    (elim (cases_Bool (footprint c (base_pixel p))) [
      | inl t ↦ local.inside a b v w (λ q g. same q (or_left _ _ g)) p t
      | inr t ↦ local.outside a v p t ∙ here ∙ sym (local.outside b w p t)
    ])
    (λ q f. agree_after c cs a b local v w same q (or_right _ _ f))

outside_footprint_unchanged : (cs : List Command) (a : NumberSet) → AreCommands cs → IsWithin a pixels → (p : ℕ) → footprint_of_all cs (base_pixel p) ≡ false → set.contains (set_after_all a cs) p ≡ set.contains a p
outside_footprint_unchanged [] a each v p f = refl
outside_footprint_unchanged (c ∷ cs) a each v p f =
    let local : IsLocal commands c = command_local c each.0 in
    outside_footprint_unchanged cs (set_after a c) each.1 (local.stays a v) p (not_true_false _ (λ t. absurd_bool _ (or_right (footprint c (base_pixel p)) _ t) f))
    ∙ local.outside a v p (not_true_false _ (λ t. absurd_bool _ (or_left _ (footprint_of_all cs (base_pixel p)) t) f))

changed_set_within : (cs : List Command) (a : NumberSet) → AreCommands cs → IsWithin a pixels → IsWithin (set_after_all a cs) pixels
changed_set_within [] a each v = v
changed_set_within (c ∷ cs) a each v = let local : IsLocal commands c = command_local c each.0 in changed_set_within cs (set_after a c) each.1 (local.stays a v)

pub batch_local : (c : Command) (cs : List Command) → AreCommands (c ∷ cs) → IsLocal batches (c ∷ cs)
batch_local c cs each =
    let local : IsLocal commands c = command_local c each.0 in
    record {
      some = (local.some.0, local.some.1, or_left _ _ local.some.2);
      reply = λ a b v w same. equal_replies (c ∷ cs) a b each v w same;
      inside = λ a b v w same p f. equal_sets_after (c ∷ cs) a b each v w p (same p f) same;
      outside = λ a v p f. outside_footprint_unchanged (c ∷ cs) a each v p f;
      stays = λ a v. changed_set_within (c ∷ cs) a each v;
    }

-- the content of the footprint determines the replies
pub previous_replies : (cs : List Command) (a b : NumberSet) → AreCommands cs → IsWithin a pixels → IsWithin b pixels → AgreeOn (footprint_of_all cs) a b → replies_on a cs ≡ replies_on b cs
previous_replies = equal_replies

-- the content of the footprint determines its new content
pub previous_parts : (cs : List Command) (a b : NumberSet) → AreCommands cs → IsWithin a pixels → IsWithin b pixels → AgreeOn (footprint_of_all cs) a b
    → (n : ℕ) → footprint_of_all cs n ≡ true → part_of (set_after_all a cs) n ≡ part_of (set_after_all b cs) n
unfolding base_pixel
previous_parts cs a b each v w same n f = same_members _ _ (λ p. same_test _ _
    (λ h. let k = of_part (set_after_all a cs) n p h in in_part (set_after_all b cs) n p (sym (alike p k.1) ∙ k.0) k.1)
    (λ h. let k = of_part (set_after_all b cs) n p h in in_part (set_after_all a cs) n p (alike p k.1 ∙ k.0) k.1))
  where
    alike : (p : ℕ) → p / base_pixel_size ≡ n → set.contains (set_after_all a cs) p ≡ set.contains (set_after_all b cs) p
    alike p e = let g : footprint_of_all cs (base_pixel p) ≡ true = ap (footprint_of_all cs) e ∙ f in equal_sets_after cs a b each v w p (same p g) same

-- the replies computed from the given content are those on every set that agrees with it
pub replied : (cs : List Command) (before made : NumberSet) (replies : List Reply) → AreCommands cs → IsWithin made pixels → made ≡ before → replies ≡ replies_on made cs → AreRepliesTo cs before replies
replied cs before made replies each w e r a v same =
    r ∙ ap (λ t. replies_on t cs) e ∙ previous_replies cs before a each (subst (λ t. IsWithin t pixels) e w) v same

-- the given content determines the whole batch
pub determined : (cs : List Command) (before made : NumberSet) (replies : List Reply) → AreCommands cs → IsWithin made pixels → made ≡ before → replies ≡ replies_on made cs → IsDeterminedBy cs before replies
determined cs before made replies each w e r = record {
  replied = replied cs before made replies each w e r;
  inside = λ a v same b f. previous_parts cs before a each (subst (λ t. IsWithin t pixels) e w) v same b f;
  outside = λ a v q f. outside_footprint_unchanged cs a each v q f;
  stays = λ a v. changed_set_within cs a each v;
}

-- the footprint of a batch is not empty
pub some_part : (cs : List Command) → 0 < length cs → AreCommands cs → (b : ℕ) × (b < 12) × (footprint_of_all cs b ≡ true)
some_part [] some each = absurd (omega arith)
some_part (c ∷ cs) some each = (batch_local c cs each).some
