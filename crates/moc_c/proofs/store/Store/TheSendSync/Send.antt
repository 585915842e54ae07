use mir.Raw.{raw}
use denote.Memory.{lone}
use denote.Struct.Struct.{exits_of}
use denote.Struct.Owning.{shape, fields, to}
use denote.Param.Send.{IsSend, AllSend, owning_send, struct_send, sendable}
use Rattle.std.proofs.Crossing as heap
use Rattle.std_alloc.proofs.SendSync.{quiet, lies}
use Rattle.std_heap.proofs.Global.TheSendSync as handle
use Rattle.moc_c.specs.contracts.table.CoverageTable as CoverageTable
use Rattle.moc_c.proofs.table.CoverageTable.TheSendSync.{the_send as table}
use Rattle.moc_c.specs.contracts.store.Store.{the_row, the_type}

pub send : IsSend the_row
send =
    let all : AllSend (fields the_type) = (search sendable, (handle.the_field_send, tt)) in
    owning_send the_type all (λ d. (lies CoverageTable.the_row table d.ptr d.contents, heap.frees.frees d.alloc (raw (lone CoverageTable.the_row.mir)) d.ptr))
    (λ k. quiet (to the_type) (exits_of k (fields the_type)) ((struct_send (shape the_type) all).leaving k))
