use Rattle.std.proofs.Common.{sym, ap, ◌∙◌}
use Rattle.std.specs.Ordering.{nat_cmp}
use Rattle.std.specs.Option.{is_some}
use Rattle.std.specs.FinMap as map
use Rattle.moc_lists.specs.RangeList.{NumberSet}
use Rattle.moc_c.proofs.Keys.{get_entries, get_after_removal}
use Rattle.moc_c.proofs.table.CoverageTree.remove.Goals as goal

pub returns-clause-removed : goal.returns-clause-removed
returns-clause-removed c =
    get_after_removal c.self.inside.by_id c.remove.new.self c.args.id c.remove.ensures.updates.0
    ∙ ap (λ (m : map.FinMap nat_cmp NumberSet). map.remove m c.args.id) c.self.view_is

pub returns-clause-found : goal.returns-clause-found
returns-clause-found c =
    c.is_some.ensures ∙ ap is_some (c.remove.ensures.value ∙ sym (get_entries c.self.inside.by_id c.args.id)
    ∙ ap (λ (m : map.FinMap nat_cmp NumberSet). map.get m c.args.id) c.self.view_is)
