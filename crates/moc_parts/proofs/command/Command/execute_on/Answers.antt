use Rattle.moc_parts.proofs.SingleParts.{no_addition, no_removal}
use Rattle.moc_parts.proofs.command.Command.execute_on.Goals as goal

pub returns-in_ok-insert_all-in-Add-clause-same : goal.returns-in_ok-insert_all-in-Add-clause-same
returns-in_ok-insert_all-in-Add-clause-same c = no_addition c.args.pixels.now c.in-Add.x.set c.insert_all.new.self c.in_ok-insert_all-in-Add.field-0 c.in_ok-insert_all-in-Add.ensures.set c.in_ok-insert_all-in-Add.ensures.added

pub returns-in_ok-remove_all-in-Remove-clause-same : goal.returns-in_ok-remove_all-in-Remove-clause-same
returns-in_ok-remove_all-in-Remove-clause-same c = no_removal c.args.pixels.now c.in-Remove.x.set c.remove_all.new.self c.in_ok-remove_all-in-Remove.field-0 c.in_ok-remove_all-in-Remove.ensures.set c.in_ok-remove_all-in-Remove.ensures.removed
