use Rattle.moc_ranges.proofs.Views.{ranges_within_sky}
use Rattle.moc_ranges.proofs.coverage.Coverage.try_copy.Goals as goal

pub returns-in_err-list-clause-within : goal.returns-in_err-list-clause-within
returns-in_err-list-clause-within c = ranges_within_sky c.self.inside.list c.args.self.now c.self.view_is c.in_err-list.ensures.normal

pub returns-clause-within : goal.returns-clause-within
returns-clause-within c = ranges_within_sky c.self.inside.list c.args.self.now c.self.view_is c.in_ok-list.ensures.normal
