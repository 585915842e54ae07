use Rattle.std.proofs.Common.{sym, ◌∙◌}
use Rattle.moc_shared.proofs.Replying.{notes_same, local_batch, pointers_of_footprint, footprint_copies, leaves}
use Rattle.moc_shared.proofs.calls.execution.observe.Goals as goal

pub end_all-requires-clause-held : goal.end_all-requires-clause-held
end_all-requires-clause-held c =
    let all = c.requires.held.all in
    record {
      client = all.client;
      carried = all.carried;
      held = all.held ∙ sym (notes_same c.args.slots.now c.copy_all.new.copies 12 c.in-Ok.ensures.copied);
    }

pub end_all-requires-clause-some : goal.end_all-requires-clause-some
end_all-requires-clause-some c =
    let local =
    local_batch c.args.batch.now c.batches_are_local.ensures c.commands.ensures.some c.commands.ensures.valid in
    let set_is_valid =
    footprint_copies c.args.batch.now c.args.slots.now c.copy_all.new.copies c.in-Ok.ensures.copied c.requires.held.footprint
    in
    pointers_of_footprint c.args.batch.now c.copy_all.new.copies set_is_valid local

pub end_all-requires-clause-edited : goal.end_all-requires-clause-edited
end_all-requires-clause-edited c =
    let local =
    local_batch c.args.batch.now c.batches_are_local.ensures c.commands.ensures.some c.commands.ensures.valid in
    leaves c.args.batch.now c.args.slots.now c.copy_all.new.copies c.copy_all.ensures.long c.requires.held.own
    c.requires.held.footprint
    c.in-Ok.ensures.copied c.requires.query local c.queries_leave_the_set.ensures
