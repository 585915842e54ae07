-- The result of creating a store.
use base.Fml.{Fml, fex, fsep, feq}
use base.Fraction.{full_share}
use denote.RawPtr.{Ptr, lies_at, room_at}
use Rattle.std.specs.Prelude.{Bool, true, false}
use Rattle.moc_c.specs.Contents.{Contents, empty_store}
use Rattle.moc_c.specs.contracts.store.Store.{the_row}

-- an empty store, or the unused memory
abbrev pub store_or_memory : Bool → Ptr → Fml
store_or_memory true p =
    fex the_row.Denot (λ d. fsep (feq Contents d.contents empty_store) (lies_at the_row full_share p d))
store_or_memory false p = room_at the_row p
