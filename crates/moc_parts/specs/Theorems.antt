-- Theorems about the commands and about the parts of sets.
use Rattle.std.specs.Prelude.{◌≡◌, ◌<◌, ℕ, false, List, ◌∷◌, get_or, length}
use Rattle.std.specs.List.{list_any}
use Rattle.std.specs.FinSet as set
use Rattle.moc_lists.specs.RangeList.{NumberSet}
use Rattle.moc_ranges.specs.Operations.{part_of, IsWithin, pixels}
use Rattle.moc_parts.specs.Objects.{base_pixel, IsLocal}
use Rattle.moc_parts.specs.Commands.{commands, is_update, operand_set, parts_met, IsCommand, IsOperand}
use Rattle.moc_parts.specs.Batches.{batches, set_after_all, AreCommands}
use Rattle.moc_parts.specs.Parts.{parts_below, union_of, AreWithinParts, part_count}
use Rattle.moc_parts.specs.declared.command.Operand.{Operand}
use Rattle.moc_parts.specs.declared.command.Command.{Command}

-- a command reads and changes only the parts in its footprint
abbrev pub CommandsAreLocal : Type 0
CommandsAreLocal = (c : Command) → IsCommand c → IsLocal commands c

-- a batch reads and changes only the parts in its footprint
abbrev pub BatchesAreLocal : Type 0
BatchesAreLocal = (c : Command) (cs : List Command) → AreCommands (c ∷ cs) → IsLocal batches (c ∷ cs)

-- an operand's original set and its degraded set have pixels in the same parts
abbrev pub DegradedOperandsMeetTheSameParts : Type 0
DegradedOperandsMeetTheSameParts =
    (x : Operand) → IsOperand x → (b : ℕ) → parts_met (operand_set x) b ≡ parts_met x.set b

-- a batch without updates leaves the set unchanged
abbrev pub QueriesLeaveTheSet : Type 0
QueriesLeaveTheSet = (cs : List Command) → list_any is_update cs ≡ false → (a : NumberSet) → set_after_all a cs ≡ a

-- Twelve sets, each within its own base pixel, are the parts of their union. The union is within the sky. A pixel is in
-- the union if and only if it is in the set of its base pixel.
pub record SetsAreUnitedByParts : Type 0 where
  pub parts : (sets : List NumberSet) → AreWithinParts sets → sets ≡ parts_below (union_of sets) part_count
  pub within : (sets : List NumberSet) → AreWithinParts sets → IsWithin (union_of sets) pixels
  pub contains : (sets : List NumberSet) → AreWithinParts sets → (p : ℕ) → base_pixel p < part_count
      → set.contains (union_of sets) p ≡ set.contains (get_or sets (base_pixel p) set.empty) p

-- The list of the first n parts has length n, and its element b is part b. The twelve parts of a set of pixels are each
-- within their own base pixel, and their union is the set.
pub record SetsHaveTwelveParts : Type 0 where
  pub many : (a : NumberSet) (n : ℕ) → length (parts_below a n) ≡ n
  pub each : (a : NumberSet) (n b : ℕ) → b < n → get_or (parts_below a n) b set.empty ≡ part_of a b
  pub lie : (a : NumberSet) → IsWithin a pixels → AreWithinParts (parts_below a part_count)
  pub whole : (a : NumberSet) → IsWithin a pixels → union_of (parts_below a part_count) ≡ a
