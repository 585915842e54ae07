-- A sequential object on a set of pixels: the new set and the reply of each operation, and the parts that it accesses.
use Rattle.std.specs.Prelude.{◌≡◌, ℕ, ◌/◌, ◌<◌, Bool, true, false}
use Rattle.std.specs.FinSet as set
use Rattle.moc_lists.specs.RangeList.{NumberSet}
use Rattle.moc_ranges.specs.Operations.{base_pixel_size, pixels, IsWithin}
use Rattle.moc_parts.specs.Parts.{part_count}

-- the base pixel of a pixel
unfoldable pub base_pixel : ℕ → ℕ
base_pixel p = p / base_pixel_size

-- a sequential object: the effect of each operation on a set of pixels, and its footprint
pub record Object (Op Reply : Type 0) : Type 0 where
  -- the footprint of an operation: the parts that it accesses
  pub footprint : Op → ℕ → Bool
  -- the new set and the reply
  pub answer : NumberSet → Op → NumberSet × Reply

-- two sets are equal in the parts that pass the test
abbrev pub AgreeOn : (ℕ → Bool) → NumberSet → NumberSet → Type 0
AgreeOn parts a b = (p : ℕ) → parts (base_pixel p) ≡ true → set.contains a p ≡ set.contains b p

-- an operation is local if its footprint is not empty, it accesses nothing else, and sets of pixels stay within the sky
pub record IsLocal {Op Reply : Type 0} (o : Object Op Reply) (op : Op) : Type 0 where
  pub some : (b : ℕ) × (b < part_count) × (o.footprint op b ≡ true)
  pub reply : (a b : NumberSet) → IsWithin a pixels → IsWithin b pixels → AgreeOn (o.footprint op) a b
      → (o.answer a op).1 ≡ (o.answer b op).1
  pub inside : (a b : NumberSet) → IsWithin a pixels → IsWithin b pixels → AgreeOn (o.footprint op) a b
      → AgreeOn (o.footprint op) (o.answer a op).0 (o.answer b op).0
  pub outside : (a : NumberSet) → IsWithin a pixels → (p : ℕ) → o.footprint op (base_pixel p) ≡ false
      → set.contains (o.answer a op).0 p ≡ set.contains a p
  pub stays : (a : NumberSet) → IsWithin a pixels → IsWithin (o.answer a op).0 pixels
