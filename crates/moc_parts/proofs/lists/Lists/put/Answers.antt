use Rattle.std.proofs.Common.{Some, sym, ap, subst, ◌∙◌, ◌<◌}
use Rattle.std.specs.Prelude.{set as set_at}
use Rattle.moc_parts.specs.Private.Drafts.{index_of_part_from, twelve_lists}
use Rattle.moc_parts.proofs.OptionalLists.{is_first, entry_at_index, entry_is_new}
use Rattle.moc_parts.proofs.lists.Lists.put.Goals as goal

pub index_mut-requires : goal.index_mut-requires
index_mut-requires c =
    let within = (is_first c.deref.result.now c.args.part c.in-Some.i (sym c.index_of_part.ensures.place ∙ c.in-Some.is)).within in
    subst (λ n. c.in-Some.i < n) c.deref.ensures.len within

pub returns-in-Some-clause-put : goal.returns-in-Some-clause-put
returns-in-Some-clause-put c =
    let lists = c.self.inside.lists.items in
    let place = ap (λ xs. index_of_part_from 0 xs c.args.part) (sym c.deref.ensures.value) ∙ sym c.index_of_part.ensures.place ∙ c.in-Some.is in
    entry_at_index lists c.args.part c.in-Some.i (c.index_mut.result.now.0, Some c.args.list) c.index_of_part.ensures.in_range place
    (ap (λ e. e.0) c.index_mut.ensures.value ∙ (is_first lists c.args.part c.in-Some.i place).part c.index_mut.result.now)
    ∙ ap (λ l. set_at l c.args.part (Some c.args.list)) c.self.view_is

pub returns-in_ok-push-in-None-clause-put : goal.returns-in_ok-push-in-None-clause-put
returns-in_ok-push-in-None-clause-put c =
    let lists = c.self.inside.lists.items in
    let place = ap (λ xs. index_of_part_from 0 xs c.args.part) (sym c.deref.ensures.value) ∙ sym c.index_of_part.ensures.place ∙ c.in-None.is in
    ap twelve_lists c.in_ok-push-in-None.ensures.items ∙ entry_is_new lists c.args.part (Some c.args.list) c.index_of_part.ensures.in_range place
    ∙ ap (λ l. set_at l c.args.part (Some c.args.list)) c.self.view_is
