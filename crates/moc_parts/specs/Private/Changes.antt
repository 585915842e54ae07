-- The effect of a change on a set and on one of its parts.
use Rattle.std.specs.Prelude.{◌≡◌, ℕ, ◌≤◌, ◌<◌, false, Option, None, Some}
use Rattle.std.specs.FinSet as set
use Rattle.moc_lists.specs.RangeList.{NumberSet}
use Rattle.moc_ranges.specs.Operations.{pixels, complement, part_of, symmetric, IsWithin}
use Rattle.moc_ranges.specs.Cells.{degrade}
use Rattle.moc_parts.specs.declared.change.PartUpdate.{PartUpdate}
use Rattle.moc_parts.specs.declared.change.Change.{Change}
use Rattle.moc_parts.specs.declared.change.Change.TheVariants.{Union, Subtract, Intersect, Invert, Degrade}
use Rattle.moc_sphere.specs.CellNumber.{max_order}
use Rattle.moc_parts.specs.Parts.{part_count}

-- the set after a change
abbrev pub set_after_change : Change → NumberSet → NumberSet
set_after_change (Union s) a = set.union a s.now
set_after_change (Subtract s) a = set.difference a s.now
set_after_change (Intersect s) a = set.intersection a s.now
set_after_change Invert a = complement a
set_after_change (Degrade order) a = degrade a order

-- part b after a change
abbrev pub changed_part : Change → NumberSet → ℕ → NumberSet
changed_part (Union s) part b = set.union part (part_of s.now b)
changed_part (Subtract s) part b = set.difference part s.now
changed_part (Intersect s) part b = set.intersection part s.now
changed_part Invert part b = part_of (complement part) b
changed_part (Degrade order) part b = degrade part order

-- a change is valid if its set is within the sky and its order is 0 to 29
abbrev pub IsChange : Change → Type 0
IsChange (Union s) = IsWithin s.now pixels
IsChange (Subtract s) = IsWithin s.now pixels
IsChange (Intersect s) = IsWithin s.now pixels
IsChange Invert = Unit {0}
IsChange (Degrade order) = order ≤ max_order

-- a change leaves every part outside these parts unchanged
abbrev pub LeavesOthers : Change → NumberSet → Type 0
LeavesOthers change parts =
    (b : ℕ) → b < part_count → set.contains parts b ≡ false
    → (part : NumberSet) → part_of part b ≡ part → changed_part change part b ≡ part

-- the new list and the number of pixels that were added or removed; none if the list is unchanged
abbrev pub IsPartUpdate : NumberSet → NumberSet → Option PartUpdate → Type 0
IsPartUpdate old new None = new ≡ old
IsPartUpdate old new (Some altered) = (altered.list ≡ new) × (altered.pixels ≡ set.len (symmetric new old))
