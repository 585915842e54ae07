use Rattle.std.proofs.Common.{sym, ap, ◌∙◌}
use Rattle.std.specs.Ordering.{nat_cmp}
use Rattle.std.specs.FinMap as map
use Rattle.moc_lists.specs.RangeList.{NumberSet}
use Rattle.moc_c.proofs.Keys.{get_entries}
use Rattle.moc_c.proofs.table.CoverageTree.get.Goals as goal

pub returns : goal.returns
returns c =
    c.get.ensures.value ∙ sym (get_entries c.self.inside.by_id c.args.id)
    ∙ ap (λ (m : map.FinMap nat_cmp NumberSet). map.get m c.args.id) c.self.view_is
