use Rattle.moc_blocks.proofs.Passing.{first_after_of_item}
use Rattle.moc_blocks.proofs.runs.first_ending_near.Goals as goal

pub returns : goal.returns
returns g c = first_after_of_item g.T.Run.ranges c.args.runs.now c.args.limit c.count_ended_near.result c.get.result c.get.ensures.lookup c.count_ended_near.ensures.ended c.count_ended_near.ensures.past
