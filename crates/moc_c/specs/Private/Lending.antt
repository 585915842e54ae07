-- A mutable borrow of the table of a store.
use Rattle.std.specs.Borrow.{Lends, MutBor, Fml}
use Rattle.moc_c.specs.Contents.{Contents}
use Rattle.moc_c.specs.declared.store.Store.{Store}
use Rattle.moc_c.specs.contracts.store.Store.{the_row}
use Rattle.moc_c.specs.contracts.table.CoverageTable.{the_row as table_row}

-- a store with these contents
abbrev pub with_contents : Store → Contents → Store
with_contents d x = record d { contents = x }

-- the store ends with the final value of the borrow r
abbrev pub LendsTable : MutBor Store → MutBor Contents → Fml
LendsTable s r = Lends the_row table_row s r (with_contents s.now)
