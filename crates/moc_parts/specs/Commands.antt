-- The commands on a set of pixels, and their footprints.
use Rattle.std.specs.Prelude.{◌≡◌, ℕ, ◌≤◌, Bool, true, false, nat_lt, nat_eq, IfSome, List, ◌∷◌, map, if◌then◌else◌}
use Rattle.std.specs.List.{list_any}
use Rattle.std.specs.FinSet as set
use Rattle.std.specs.Option.{option_map_or}
use Rattle.moc_sphere.specs.CellNumber.{CellNumber, cell_number, IsCell, max_order}
use Rattle.moc_sphere.specs.Faces.{face_of}
use Rattle.moc_sphere.specs.Touching.{touching_cells}
use Rattle.moc_lists.specs.RangeList.{NumberSet, pixel_count}
use Rattle.moc_ranges.specs.Operations.{pixels, complement, part_of, meets, IsWithin}
use Rattle.moc_ranges.specs.Cells.{degrade, pixels_of}
use Rattle.moc_parts.specs.Objects.{Object}
use Rattle.moc_parts.specs.declared.command.Operand.{Operand}
use Rattle.moc_parts.specs.declared.command.Command.{Command}
use Rattle.moc_parts.specs.declared.command.Command.TheVariants.{Add, Remove, Keep, Claim, Invert, Degrade, Count, Read}
use Rattle.moc_parts.specs.declared.command.Command.TheVariants.{Near}
use Rattle.moc_parts.specs.declared.reply.Reply.{Reply}
use Rattle.moc_parts.specs.declared.reply.Reply.TheVariants as reply
use Rattle.moc_parts.specs.declared.reply.Reply.TheVariants.{Changed, Taken}
use Rattle.moc_parts.specs.Parts.{part_count}

-- the effective set of an operand: its set, degraded if an order is given
abbrev pub operand_set : Operand → NumberSet
operand_set x = option_map_or (degrade x.set) x.coarse x.set

-- the indices of a cell and of the cells that touch it
abbrev pub cells_around : CellNumber → List ℕ
cells_around c = c.index ∷ touching_cells c.order c.index

-- the pixels of a cell and of the cells that touch it
unfoldable pub surroundings : CellNumber → NumberSet
surroundings c = pixels_of (map (cell_number c.order) (cells_around c))

-- the parts in which a set has a pixel; part 0 if the set is empty
abbrev pub parts_met : NumberSet → ℕ → Bool
parts_met a b = if nat_eq (set.len a) 0 then nat_eq b 0 else nat_lt 0 (set.len (part_of a b))

-- the base pixels of a cell and of the cells that touch it
abbrev pub parts_around : CellNumber → ℕ → Bool
parts_around c b = list_any (λ index. nat_eq (face_of c.order index) b) (cells_around c)

-- the footprint of a command: the parts that it reads or changes
abbrev pub footprint : Command → ℕ → Bool
footprint (Add x) b = parts_met x.set b
footprint (Remove x) b = parts_met x.set b
footprint (Keep x) b = nat_lt b part_count
footprint (Claim x) b = parts_met x.set b
footprint Invert b = nat_lt b part_count
footprint (Degrade order) b = nat_lt b part_count
footprint (Count x) b = parts_met x.set b
footprint (Read x) b = parts_met x.set b
footprint (Near c) b = parts_around c b

-- the set after a command
abbrev pub set_after : NumberSet → Command → NumberSet
set_after a (Add x) = set.union a (operand_set x)
set_after a (Remove x) = set.difference a (operand_set x)
set_after a (Keep x) = set.intersection a (operand_set x)
set_after a (Claim x) = if meets a (operand_set x) then a else set.union a (operand_set x)
set_after a Invert = complement a
set_after a (Degrade order) = degrade a order
set_after a (Count x) = a
set_after a (Read x) = a
set_after a (Near c) = a

-- the reply to a command
abbrev pub reply_on : NumberSet → Command → Reply
reply_on a (Add x) = reply.Changed (set.len (set.difference (operand_set x) a))
reply_on a (Remove x) = reply.Changed (set.len (set.intersection a (operand_set x)))
reply_on a (Keep x) = reply.Changed (set.len (set.difference a (operand_set x)))
reply_on a (Claim x) =
    if meets a (operand_set x) then reply.Taken (set.len (set.intersection a (operand_set x))) else reply.Claimed
reply_on a Invert = reply.Changed pixel_count
reply_on a (Degrade order) = reply.Changed (set.len (set.difference (degrade a order) a))
reply_on a (Count x) = reply.Total (set.len (set.intersection a (operand_set x)))
reply_on a (Read x) = reply.Cover (set.intersection a (operand_set x))
reply_on a (Near c) = reply.Near (meets a (surroundings c))

-- a command is an update if it may change the set
abbrev pub is_update : Command → Bool
is_update (Count x) = false
is_update (Read x) = false
is_update (Near c) = false
is_update c = true

-- an `Add`, `Remove`, `Claim`, `Count` or `Read` whose operand is not degraded
abbrev pub IsPlain : Command → Type 0
IsPlain (Add x) = operand_set x ≡ x.set
IsPlain (Remove x) = operand_set x ≡ x.set
IsPlain (Claim x) = operand_set x ≡ x.set
IsPlain (Count x) = operand_set x ≡ x.set
IsPlain (Read x) = operand_set x ≡ x.set
IsPlain _ = ⊥

-- commands as a sequential object
abbrev pub commands : Object Command Reply
commands = record { footprint = footprint; answer = λ a c. (set_after a c, reply_on a c) }

-- an operand is a set of pixels within the sky with an optional order from 0 to 29
abbrev pub IsOperand : Operand → Type 0
IsOperand x = IsWithin x.set pixels × IfSome x.coarse (λ order. order ≤ max_order)

-- a command is valid if its set is within the sky, its order is 0 to 29, and its cell is a cell
abbrev pub IsCommand : Command → Type 0
IsCommand (Add x) = IsOperand x
IsCommand (Remove x) = IsOperand x
IsCommand (Keep x) = IsOperand x
IsCommand (Claim x) = IsOperand x
IsCommand Invert = Unit {0}
IsCommand (Degrade order) = order ≤ max_order
IsCommand (Count x) = IsOperand x
IsCommand (Read x) = IsOperand x
IsCommand (Near c) = IsCell c

-- a valid plain command whose footprint is exactly this part
pub record NeedsOnly (c : Command) (b : ℕ) : Type 0 where
  pub met : (k : ℕ) → footprint c k ≡ nat_eq b k
  pub plain : IsPlain c
  pub valid : IsCommand c

-- whether the reply to an `Add`, `Remove` or `Claim` states that the set is unchanged
abbrev pub is_no_change : Reply → Bool
is_no_change (Changed n) = nat_eq n 0
is_no_change (Taken n) = true
is_no_change _ = false
