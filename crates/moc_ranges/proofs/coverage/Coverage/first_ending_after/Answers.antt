use Rattle.std.proofs.Common.{refl}
use Rattle.moc_ranges.proofs.Looking.{search_set}
use Rattle.moc_ranges.proofs.coverage.Coverage.first_ending_after.Goals as goal

pub returns : goal.returns
returns c =
    search_set c.args.limit c.first_ending_after.result c.self.inside.list c.self.inside.list c.args.self.now c.self.view_is c.first_ending_after.ensures.normal refl c.first_ending_after.ensures.found
