use Rattle.std.proofs.Common.{None, get_or, sym, ap, subst, ◌∙◌, ◌<◌}
use Rattle.std.specs.Prelude.{set as set_at}
use Rattle.moc_parts.specs.Private.Drafts.{index_of_part_from}
use Rattle.moc_parts.proofs.OptionalLists.{is_first, get_at_index, get_of_missing, entry_at_index, none_left}
use Rattle.moc_parts.proofs.lists.Lists.take.Goals as goal

pub index_mut-requires : goal.index_mut-requires
index_mut-requires c =
    let within = (is_first c.deref.result.now c.args.part c.in-Some.i (sym c.index_of_part.ensures.place ∙ c.in-Some.is)).within in
    subst (λ n. c.in-Some.i < n) c.deref.ensures.len within

pub returns-in-Some-clause-taken : goal.returns-in-Some-clause-taken
returns-in-Some-clause-taken c =
    let lists = c.self.inside.lists.items in
    let place = ap (λ xs. index_of_part_from 0 xs c.args.part) (sym c.deref.ensures.value) ∙ sym c.index_of_part.ensures.place ∙ c.in-Some.is in
    c.take.ensures.value ∙ get_at_index lists c.args.part c.in-Some.i c.index_mut.result.now c.index_of_part.ensures.in_range place c.index_mut.ensures.value ∙ ap (λ l. get_or l c.args.part None) c.self.view_is

pub returns-in-Some-clause-left : goal.returns-in-Some-clause-left
returns-in-Some-clause-left c =
    let lists = c.self.inside.lists.items in
    let place = ap (λ xs. index_of_part_from 0 xs c.args.part) (sym c.deref.ensures.value) ∙ sym c.index_of_part.ensures.place ∙ c.in-Some.is in
    entry_at_index lists c.args.part c.in-Some.i (c.index_mut.result.now.0, c.take.new.self) c.index_of_part.ensures.in_range place (ap (λ e. e.0) c.index_mut.ensures.value ∙ (is_first lists c.args.part c.in-Some.i place).part c.index_mut.result.now)
    ∙ (λ i. set_at (c.self.view_is i) c.args.part (c.take.ensures.after i))

pub returns-in-None-clause-taken : goal.returns-in-None-clause-taken
returns-in-None-clause-taken c =
    let lists = c.self.inside.lists.items in
    let place = ap (λ xs. index_of_part_from 0 xs c.args.part) (sym c.deref.ensures.value) ∙ sym c.index_of_part.ensures.place ∙ c.in-None.is in
    get_of_missing lists c.args.part c.index_of_part.ensures.in_range place ∙ ap (λ l. get_or l c.args.part None) c.self.view_is

pub returns-in-None-clause-left : goal.returns-in-None-clause-left
returns-in-None-clause-left c =
    let lists = c.self.inside.lists.items in
    let place = ap (λ xs. index_of_part_from 0 xs c.args.part) (sym c.deref.ensures.value) ∙ sym c.index_of_part.ensures.place ∙ c.in-None.is in
    sym c.self.view_is ∙ none_left lists c.args.part c.index_of_part.ensures.in_range place ∙ ap (λ l. set_at l c.args.part None) c.self.view_is
