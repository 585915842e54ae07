use Rattle.std.proofs.Common.{List, ap, ◌∙◌}
use Rattle.moc_parts.specs.Batches.{batches}
use Rattle.moc_parts.specs.declared.command.Command.{Command}
use Rattle.moc_steps.specs.Machine.{Running, next_part}
use Rattle.moc_steps.specs.Private.ClientState.{ClientState}
use Rattle.moc_steps.proofs.TakenParts.{is_taken_iff}
use Rattle.moc_steps.proofs.TakingParts.{footprint_is_taken}
use Rattle.moc_steps.proofs.midway.ActiveOperation.prepare_update.Goals as goal

pub new-requires-clause-footprint : goal.new-requires-clause-footprint
new-requires-clause-footprint c b l =
    let i = c.self.inside in
    let r : Running (List Command) = record { number = i.number; operation = i.batch; taken = i.taken; edited = i.edited; given = i.given; quits = i.quits } in
    c.self.invariant.filled b l ∙ is_taken_iff r i.parts.items b c.self.invariant.ascending ∙ footprint_is_taken batches r b (ap (λ (z : ClientState). next_part batches z.running) c.self.view_is ∙ c.requires.all) l
