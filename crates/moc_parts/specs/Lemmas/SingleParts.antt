-- Operations whose footprint is a single part, for the proofs of callers.
use Rattle.std.proofs.Common.{◌≡◌, ◌≢◌, ℕ, ◌/◌, ◌&&◌, Bool, true, false, true≢false, nat_eq}
use Rattle.std.proofs.Common.{refl, sym, ap, ◌∙◌, eq-eqb, eqb-true, ne_eqb}
use native.Mathlib.Decide.{ℕ_discrete}
use Rattle.std.specs.FinSet as set
use Rattle.moc_lists.specs.RangeList.{NumberSet}
use Rattle.moc_lists.specs.Lemmas.Members.{same_members}
use Rattle.moc_ranges.specs.Lemmas.Members.{contains-part_of}
use Rattle.moc_ranges.specs.Operations.{base_pixel_size, pixels, part_of, IsWithin}
use Rattle.moc_parts.specs.Objects.{Object, IsLocal, AgreeOn, base_pixel}

and_true : (x : Bool) → (x && true) ≡ x
and_true true = refl
and_true false = refl

and_false : (x : Bool) → (x && false) ≡ false
and_false true = refl
and_false false = refl

both_true : (x y : Bool) → (x && y) ≡ true → x ≡ true
both_true true y e = refl
both_true false y e = absurd (true≢false (sym e))

inside_part : (s : NumberSet) (b q : ℕ) → q / base_pixel_size ≡ b
    → set.contains (part_of s b) q ≡ set.contains s q
inside_part s b q e = contains-part_of s b q
    ∙ ap (λ (t : Bool). set.contains s q && t) (eq-eqb (q / base_pixel_size) b e) ∙ and_true (set.contains s q)

outside_part : (s : NumberSet) (k q : ℕ) → q / base_pixel_size ≢ k → set.contains (part_of s k) q ≡ false
outside_part s k q ne = contains-part_of s k q
    ∙ ap (λ (t : Bool). set.contains s q && t) (ne_eqb (q / base_pixel_size) k ne) ∙ and_false (set.contains s q)

-- a part of a set of pixels is within the sky
pub part_within : (s : NumberSet) (b : ℕ) → IsWithin s pixels → IsWithin (part_of s b) pixels
part_within s b w = record {
  each = λ q h.
      w.each q (both_true (set.contains s q) (nat_eq (q / base_pixel_size) b) (sym (contains-part_of s b q) ∙ h));
}

-- a local operation whose footprint is exactly part b
module _ {Op Reply : Type 0} (o : Object Op Reply) (op : Op) (b : ℕ) (met : (k : ℕ) → o.footprint op k ≡ nat_eq b k)
    (local : IsLocal o op) where
  -- part b of a set agrees with the set on the footprint
  agrees : (s : NumberSet) → AgreeOn (o.footprint op) (part_of s b) s
  unfolding base_pixel
  agrees s q t =
      inside_part s b q (sym (eqb-true b (q / base_pixel_size) (sym (met (q / base_pixel_size)) ∙ t)))

  untouched : (q : ℕ) → q / base_pixel_size ≢ b → o.footprint op (base_pixel q) ≡ false
  unfolding base_pixel
  untouched q ne = met (q / base_pixel_size) ∙ ne_eqb b (q / base_pixel_size) (λ e. ne (sym e))

  touched : (q : ℕ) → q / base_pixel_size ≡ b → o.footprint op (base_pixel q) ≡ true
  unfolding base_pixel
  touched q e = ap (o.footprint op) e ∙ met b ∙ eq-eqb b b refl

  -- the reply on a set is the reply on part b
  pub same_reply : (s : NumberSet) → IsWithin s pixels → (o.answer s op).1 ≡ (o.answer (part_of s b) op).1
  same_reply s w = local.reply s (part_of s b) w (part_within s b w) (λ q t. sym (agrees s q t))

  -- part b of the result is the result on part b
  pub part_after : (s : NumberSet) → IsWithin s pixels → (o.answer (part_of s b) op).0 ≡ part_of (o.answer s op).0 b
  part_after s w = same_members _ _ (λ q. one q (ℕ_discrete (q / base_pixel_size) b))
    where
      one : (q : ℕ) → Dec (q / base_pixel_size ≡ b)
          → set.contains (o.answer (part_of s b) op).0 q ≡ set.contains (part_of (o.answer s op).0 b) q
      one q (yes e) = local.inside (part_of s b) s (part_within s b w) w (agrees s) q (touched q e)
          ∙ sym (inside_part (o.answer s op).0 b q e)
      one q (no ne) = local.outside (part_of s b) (part_within s b w) q (untouched q ne) ∙ outside_part s b q ne
          ∙ sym (outside_part (o.answer s op).0 b q ne)

  -- the other parts do not change
  pub other_after : (s : NumberSet) (k : ℕ) → k ≢ b → IsWithin s pixels → part_of (o.answer s op).0 k ≡ part_of s k
  other_after s k apart w = same_members _ _ (λ q. one q (ℕ_discrete (q / base_pixel_size) k))
    where
      one : (q : ℕ) → Dec (q / base_pixel_size ≡ k)
          → set.contains (part_of (o.answer s op).0 k) q ≡ set.contains (part_of s k) q
      one q (yes e) = contains-part_of (o.answer s op).0 k q
          ∙ ap (λ (t : Bool). t && nat_eq (q / base_pixel_size) k)
          (local.outside s w q (untouched q (λ f. apart (sym e ∙ f)))) ∙ sym (contains-part_of s k q)
      one q (no ne) = outside_part (o.answer s op).0 k q ne ∙ sym (outside_part s k q ne)
