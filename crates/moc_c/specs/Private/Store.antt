-- Ownership of stores.
use base.Fml.{Fml}
use denote.RawPtr.{Ptr}
use Rattle.std.specs.Box.Ownership.{box_owns}
use Rattle.std.specs.Global.{Global}
use Rattle.std_heap.specs.contracts.GlobalAllocator.TheImpl.{ghosts}
use Rattle.moc_c.specs.contracts.table.CoverageTable.{the_row}

-- what a store owns through its pointer: the same as a box of its table
abbrev pub store_owns : Global → Ptr → the_row.Denot → Fml
store_owns alloc = box_owns (ghosts.dealloc_token alloc) the_row
