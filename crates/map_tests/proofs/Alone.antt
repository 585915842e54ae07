-- A list in part 0, with all other parts empty.
use Rattle.std.proofs.Common.{◌≡◌, ℕ, zero, suc, ◌<◌, ◌/◌, ◌&&◌, ◌∷◌, get_or, replicate, nat_eq, refl, sym, ap, ◌∙◌, arith}
use Rattle.std.specs.FinSet as set
use Rattle.std.proofs.lemmas.List.{get_or-replicate}
use Rattle.moc_lists.specs.RangeList.{NumberSet}
use Rattle.moc_lists.specs.Lemmas.Members.{same_members}
use Rattle.moc_ranges.specs.Lemmas.Members.{contains-part_of}
use Rattle.moc_ranges.specs.Operations.{base_pixel_size, part_of}
use Rattle.moc_parts.specs.Parts.{AreWithinParts}
use Rattle.moc_parts.proofs.Members.{has-empty}
use Rattle.moc_parts.proofs.Drafting.{part_of_part_same}

part-empty : (b : ℕ) → part_of set.empty b ≡ set.empty
part-empty b = same_members _ _ (λ q. contains-part_of set.empty b q ∙ ap (λ t. t && nat_eq (q / base_pixel_size) b) (has-empty q) ∙ sym (has-empty q))

-- a list of part 0, and empty other parts
pub first_alone : (a : NumberSet) → part_of a 0 ≡ a → AreWithinParts (a ∷ replicate 11 set.empty)
first_alone a lies = record { twelve = refl; own = go }
  where
    go : (b : ℕ) → b < 12 → part_of (get_or (a ∷ replicate 11 set.empty) b set.empty) b ≡ get_or (a ∷ replicate 11 set.empty) b set.empty
    go zero l = lies
    go (suc b) l =
        let none : get_or (replicate 11 set.empty) b set.empty ≡ set.empty = get_or-replicate 11 b set.empty set.empty (omega arith) in
        ap (λ s. part_of s (suc b)) none ∙ part-empty (suc b) ∙ sym none

-- part 0 of a set is in its base pixel
pub part_of_first_part : (whole part : NumberSet) (b : ℕ) → part ≡ part_of whole b → b ≡ 0 → part_of part 0 ≡ part
part_of_first_part whole part b is zero_is =
    let e : part ≡ part_of whole 0 = is ∙ ap (λ n. part_of whole n) zero_is in
    ap (λ p. part_of p 0) e ∙ part_of_part_same whole 0 ∙ sym e
