-- The parts that a client's seat holds, and the contents of their slots.
use Rattle.std.specs.Prelude.{◌≡◌, ℕ, zero, suc, ◌<◌, Option, Some, None, is_some, List, [], ◌∷◌, map, slice_index_or}
use Rattle.std.specs.Arc.{arc_value}
use Rattle.atomic_table.specs.Seated.{TableId}
use Rattle.atomic_table.specs.Table.{Me}
use Rattle.moc_lists.specs.RangeList.{NumberSet}
use Rattle.moc_ranges.specs.Operations.{pixels, part_of, IsWithin}
use Rattle.moc_parts.specs.Batches.{footprint_of_all}
use Rattle.moc_parts.specs.Prepared.{content_or_empty}
use Rattle.moc_parts.specs.declared.command.Command.{Command}
use Rattle.moc_shared.specs.declared.record.Note.{Note}
use Rattle.moc_shared.specs.declared.record.View.{View}
use Rattle.moc_shared.specs.Batches.{batch_answer}
use Rattle.moc_shared.specs.Seats.{table_index, note, Pointer, Table}
use Rattle.moc_shared.specs.Private.Invariant.{parts_of_notes, TableInvariant}

-- the slots of the seat are those of the parts that its view holds
abbrev pub IsCarried : {S X O R Y : Type 0} → Me S (View X O R Y) → Type 0
IsCarried m = map (λ c. c.0) m.1 ≡ map table_index (parts_of_notes m.0.holds)

-- the seat belongs to this table, which has twelve parts
abbrev pub IsOfTable : TableId → TableId → Type 0
IsOfTable seat table = (seat ≡ table) × (table.words ≡ table_index 12)

-- a note that a part is held, with its set
abbrev pub PartNote : Type 0
PartNote = Note (Option NumberSet)

-- the set of a pointer
abbrev pub shared : Pointer → Option NumberSet
shared p = Some (arc_value p)

-- the content of a slot; none if its pointer was taken out
abbrev pub content : Option Pointer → Option NumberSet
content (Some p) = shared p
content None = None

-- part b of a set
unfoldable pub part : ℕ → NumberSet → Option NumberSet
part b a = Some (part_of a b)

-- a set of pixels
abbrev pub IsInSky : NumberSet → Type 0
IsInSky a = IsWithin a pixels

-- the pointer at an index, if any
abbrev pub slot_at : List (Option Pointer) → ℕ → Option Pointer
slot_at slots b = slice_index_or slots b None

-- the note of a slot with a pointer, in front of other notes
abbrev pub note_if : ℕ → Option Pointer → List PartNote → List PartNote
note_if b (Some p) notes = note b (shared p) ∷ notes
note_if b None notes = notes

-- the notes of the slots below b that have a pointer, the last first
unfoldable pub notes_below : List (Option Pointer) → ℕ → List PartNote
notes_below slots zero = []
notes_below slots (suc b) = note_if b (slot_at slots b) (notes_below slots b)

-- there is a pointer for exactly the parts in the footprint of the batch
abbrev pub IsFootprint : List Command → List (Option Pointer) → Type 0
IsFootprint cs slots = (b : ℕ) → b < 12 → is_some (slot_at slots b) ≡ footprint_of_all cs b

-- the set of a slot; empty if there is no pointer
abbrev pub list_of : Option Pointer → NumberSet
list_of slot = content_or_empty (content slot)

-- the set is within base pixel b
abbrev pub IsWithinPart : ℕ → Option Pointer → Type 0
IsWithinPart b slot = part_of (list_of slot) b ≡ list_of slot

-- the set of each slot is within its own base pixel
abbrev pub AreWithinOwnParts : List (Option Pointer) → Type 0
AreWithinOwnParts slots = (b : ℕ) → IsWithinPart b (slot_at slots b)

-- the invariant of a map's table between any two steps
abbrev pub SatisfiesInvariant : NumberSet → ℕ → Table → Type 0
SatisfiesInvariant start clients table = TableInvariant 12 content part batch_answer IsInSky start clients table
