use Rattle.moc_operations.proofs.MeetingOn.{skipped_below_taken}
use Rattle.moc_operations.proofs.sharing.skip_below.Goals as goal

pub returns-then-not-is_near-clause-out : goal.returns-then-not-is_near-clause-out
returns-then-not-is_near-clause-out c = skipped_below_taken (λ r. r.now) c.take_ranges_below.result c.args.limit c.args.xs.now c.take_ranges_below.new.self c.requires c.take_ranges_below.ensures.parts c.take_ranges_below.ensures.below
