-- The result of creating a client handle.
use base.Fml.{Fml, fex, fsep, feq}
use base.Fraction.{full_share}
use denote.RawPtr.{Ptr, lies_at, room_at}
use Rattle.std.specs.Prelude.{Bool, true, false}
use Rattle.moc_c.specs.Sharing.{no_client}
use Rattle.moc_c.specs.contracts.client_handle.ClientHandle.{the_row}
use Rattle.moc_c.specs.declared.client_state.ClientState.{ClientState}

-- a handle without a client, or the unused memory
abbrev pub handle_or_memory : Bool → Ptr → Fml
handle_or_memory true p =
    fex the_row.Denot (λ s. fsep (feq ClientState s.contents no_client) (lies_at the_row full_share p s))
handle_or_memory false p = room_at the_row p
