use Rattle.std.proofs.Common.{slice_get, ap, ◌∙◌, List}
use Rattle.moc_parts.specs.Batches.{batches}
use Rattle.moc_parts.specs.declared.command.Command.{Command}
use Rattle.moc_steps.specs.Machine.{Running, next_part}
use Rattle.moc_steps.specs.Private.ClientState.{ClientState}
use Rattle.moc_steps.proofs.TakenParts.{next_is}
use Rattle.moc_steps.proofs.midway.ActiveOperation.next_part.Goals as goal

pub returns : goal.returns
returns c =
    let i = c.self.inside in
    let r : Running (List Command) = record { number = i.number; operation = i.batch; taken = i.taken; edited = i.edited; given = i.given; quits = i.quits } in
    c.part_at.ensures ∙ ap (λ xs. slice_get xs i.taken) c.deref.ensures.value ∙ next_is r i.parts.items c.self.invariant.ascending ∙ ap (λ (z : ClientState). next_part batches z.running) c.self.view_is
