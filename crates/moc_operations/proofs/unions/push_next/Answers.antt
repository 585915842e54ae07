use Rattle.moc_operations.proofs.Merging.{moves_next_by_merge}
use Rattle.moc_operations.proofs.unions.push_next.Goals as goal

pub returns-in_ok-push_or_merge : goal.returns-in_ok-push_or_merge
returns-in_ok-push_or_merge c = moves_next_by_merge _ _ c.args.xs.now c.next.new.self c.in-Some.range c.args.limit c.requires.normal c.in-Some.ensures.steps c.requires.first c.in_ok-push_or_merge.ensures.built c.in_ok-push_or_merge.ensures.same c.in_ok-push_or_merge.ensures.can
