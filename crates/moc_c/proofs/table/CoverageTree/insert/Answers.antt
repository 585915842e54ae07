use Rattle.std.proofs.Common.{ap, ◌∙◌}
use Rattle.std.specs.Ordering.{nat_cmp}
use Rattle.std.specs.FinMap as map
use Rattle.moc_lists.specs.RangeList.{NumberSet}
use Rattle.moc_c.proofs.Keys.{text_of_set}
use Rattle.moc_c.proofs.table.CoverageTree.insert.Goals as goal

pub returns-in-Ok-clause-inserted : goal.returns-in-Ok-clause-inserted
returns-in-Ok-clause-inserted c =
    text_of_set c.self.inside.by_id c.insert.new.self c.args.id c.args.set c.in-Ok.ensures.updates.0
    ∙ ap (λ (m : map.FinMap nat_cmp NumberSet). map.insert m c.args.id c.args.set) c.self.view_is
