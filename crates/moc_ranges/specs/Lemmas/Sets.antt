-- Lemmas on sets of pixels.
use Rattle.std.specs.Prelude.{◌≡◌, Bool, true, false, not, ◌&&◌, nat_lt}
use Rattle.std.specs.FinSet as set
use Rattle.std.proofs.Common.{◌∙◌, ap, sym, refl}
use Rattle.moc_blocks.specs.Lemmas.Members.{same_members}
use Rattle.moc_ranges.specs.Lemmas.Members.{contains-complement, contains-pixels}
use Rattle.moc_blocks.specs.RangeList.{NumberSet, pixel_count}
use Rattle.moc_ranges.specs.Operations.{pixels, complement, IsWithin}

double_not : (x a : Bool) → (a ≡ true → x ≡ true) → (x && not (x && not a)) ≡ a
double_not true true say = refl
double_not true false say = refl
double_not false true say = say refl
double_not false false say = refl

-- the complement of the complement of a set of pixels is the set
pub complement_involutive : (a : NumberSet) → IsWithin a pixels → complement (complement a) ≡ a
complement_involutive a within = same_members _ _ (λ q.
    contains-complement (complement a) q
    ∙ ap (λ b. nat_lt q pixel_count && not b) (contains-complement a q)
    ∙ double_not (nat_lt q pixel_count) (set.contains a q) (λ has. sym (contains-pixels q) ∙ within.each q has))
