-- A handle and its parts own what a box of the same types owns.
use mir.Syntax.{impl, tnil, dnil}
use mathlib.Core.List.{[]}
use denote.Signature.{Slot, plain}
use Rattle.std_alloc.proofs.BoxSteps.Form.{Bx}
use Rattle.std_heap.specs.contracts.Global as Heap
use Rattle.std_heap.specs.contracts.GlobalAllocator.TheImpl.{ghosts, dict}
use Rattle.std_heap.proofs.Global.TheLaws as heap
use Rattle.moc_c.specs.contracts.client_state.ClientState as ClientState
use Rattle.moc_c.proofs.client_state.ClientState.TheLaws as client_state
use Rattle.moc_c.specs.contracts.box_parts.BoxParts as BoxParts
use Rattle.moc_c.specs.contracts.client_handle.ClientHandle as ClientHandle

abbrev pub E : Bx
E = record { row = ClientState.the_row; laws = client_state.the_row_laws; al = record { row = Heap.the_row; laws = heap.the_row_laws; g = ghosts; d = dict; drops = impl [] tnil dnil } }

abbrev pub FromParts : Slot 0
FromParts = plain (λ _. BoxParts.the_row ClientState.the_row Heap.the_row ghosts)

abbrev pub FromHandle : Slot 0
FromHandle = plain (λ _. ClientHandle.the_row)
