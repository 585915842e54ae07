use Rattle.std.proofs.Common.{◌∙◌, arith, ap}
use Rattle.std.specs.FinSet as set
use Rattle.moc_blocks.specs.RangeList.{numbers, set_of}
use Rattle.moc_ranges.proofs.Gathering.{waiting_set_after_push, valid-push}
use Rattle.moc_ranges.proofs.builder.CoverageBuilder.add_waiting.Goals as goal
use Rattle.moc_ranges.proofs.builder.CoverageBuilder.add_waiting.Goals.{then-len-limit+in_ok-merge_waiting}
use Rattle.moc_ranges.proofs.builder.CoverageBuilder.add_waiting.Goals.{else-len-limit}

pub invariant_of-self-2 : goal.invariant_of-self-2
invariant_of-self-2 c = record {
  sorted = c.self-2.invariant.sorted;
  valid = rw c.in_ok-push.ensures.items (valid-push 0 c.self-2.inside.waiting.items (c.args.from, c.args.to) c.self-2.invariant.valid (omega arith) (omega arith));
}

pub returns-clause-added : goal.returns-clause-added
returns-clause-added c =
    rw c.in_ok-push.ensures.items
    (waiting_set_after_push (set.union c.self-2.inside.joined (set_of c.self-2.inside.ascending.items)) c.self-2.inside.waiting.items (c.args.from, c.args.to)
    ∙ ap (λ a. set.union a (numbers c.args.from c.args.to)) (c.self-2.view_is ∙ elim c.if-len-limit.branch [ then-len-limit+in_ok-merge_waiting w ↦ w.self-is ∙ w.in_ok-merge_waiting.ensures | else-len-limit w ↦ w.self-is ]))
