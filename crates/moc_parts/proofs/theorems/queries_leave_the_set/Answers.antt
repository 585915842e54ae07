use Rattle.moc_parts.proofs.Queries.{leave_the_set}
use Rattle.moc_parts.proofs.theorems.queries_leave_the_set.Goals as goal

pub returns : goal.returns
returns c = leave_the_set
