-- At most 16 pieces are a batch.
use Rattle.std.proofs.Common.{◌∙◌, Ok, ap, sym}
use Rattle.moc_lines.specs.Language.{command_of}
use Rattle.moc_lines.proofs.Batching.{batch-error, batch-few, batch-fits}
use Rattle.moc_lines.proofs.batch.read_batch_at.Goals as goal

pub of-requires-clause-some : goal.of-requires-clause-some
of-requires-clause-some c = (batch-fits command_of c.args.line.now c.in-Ok.commands.items c.in-Ok.ensures.bounded (c.in-Ok.ensures.reads c.in-Ok.ensures.bounded)).0

pub of-requires-clause-bounded : goal.of-requires-clause-bounded
of-requires-clause-bounded c = (batch-fits command_of c.args.line.now c.in-Ok.commands.items c.in-Ok.ensures.bounded (c.in-Ok.ensures.reads c.in-Ok.ensures.bounded)).1

pub returns-in-Ok : goal.returns-in-Ok
returns-in-Ok c =
    batch-few command_of c.args.line.now c.in-Ok.ensures.bounded ∙ c.in-Ok.ensures.reads c.in-Ok.ensures.bounded ∙ ap (λ l. Ok l) (sym c.of.ensures)

pub returns-in-Err : goal.returns-in-Err
returns-in-Err c = batch-error command_of c.args.line.now c.in-Err.error c.error_of_line.result c.in-Err.ensures.reads c.error_of_line.ensures
