use Rattle.std.proofs.Common.{ap, ◌∙◌}
use Rattle.moc_parts.specs.Batches.{footprint_of_all}
use Rattle.moc_parts.proofs.BatchLocality.{some_part}
use Rattle.moc_parts.proofs.batch.Batch.footprint.Goals as goal

pub returns-clause-some : goal.returns-clause-some
returns-clause-some c =
    let taken = some_part c.args.self.now c.commands.ensures.some c.commands.ensures.valid in
    (taken.0, taken.1, c.footprint_of_all.ensures taken.0 taken.1 ∙ ap (λ cs. footprint_of_all cs taken.0) c.commands.ensures.commands ∙ taken.2)
