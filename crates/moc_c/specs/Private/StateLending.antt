-- A mutable borrow of the state of a client handle.
use Rattle.std.specs.Borrow.{Lends, MutBor, Fml}
use Rattle.moc_c.specs.declared.client_handle.ClientHandle.{ClientHandle}
use Rattle.moc_c.specs.declared.client_state.ClientState.{ClientState}
use Rattle.moc_c.specs.contracts.client_handle.ClientHandle.{the_row}
use Rattle.moc_c.specs.contracts.client_state.ClientState.{the_row as client_state_row}

-- a handle with this state
abbrev pub with_contents : ClientHandle → ClientState → ClientHandle
with_contents s x = record s { contents = x }

-- the handle ends with the final value of the borrow r
abbrev pub LendsState : MutBor ClientHandle → MutBor ClientState → Fml
LendsState s r = Lends the_row client_state_row s r (with_contents s.now)
