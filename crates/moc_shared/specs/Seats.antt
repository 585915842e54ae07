-- The view of a client's seat in the table of a map, and the positions of parts in the table.
use Rattle.std.specs.Prelude.{ℕ, ◌*◌, List, Option}
use Rattle.std.specs.declared.sync.Arc.{Arc}
use Rattle.std.specs.declared.alloc.Global.{Global}
use Rattle.atomic_table.specs.Table.{State}
use Rattle.moc_lists.specs.RangeList.{NumberSet}
use Rattle.moc_parts.specs.declared.command.Command.{Command}
use Rattle.moc_parts.specs.declared.reply.Reply.{Reply}
use Rattle.moc_shared.specs.declared.record.Note.{Note}
use Rattle.moc_shared.specs.declared.record.View.{View}

-- The index of the lock word and of the slot of part b in the table. Two parts are far enough apart to be in different
-- cache lines.
abbrev pub table_index : ℕ → ℕ
table_index b = 8 * b

-- a note that a part is held, with its content
abbrev pub note : {Y : Type 0} → ℕ → Y → Note Y
note b y = record { part = b; content = y }

-- a shared pointer to a set
abbrev pub Pointer : Type 0
Pointer = Arc NumberSet Global

-- the view of a seat for sets and batches: the facts that its client knows
abbrev pub ClientView : Type 0
ClientView = View NumberSet (List Command) (List Reply) (Option NumberSet)

-- the lock words, slots and views of a map's table
abbrev pub Table : Type 0
Table = State (Option Pointer) ClientView
