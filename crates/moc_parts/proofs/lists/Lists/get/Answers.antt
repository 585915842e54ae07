use Rattle.std.proofs.Common.{None, get_or, sym, ap, subst, ◌∙◌, ◌<◌}
use Rattle.moc_parts.specs.Private.Drafts.{index_of_part_from}
use Rattle.moc_parts.proofs.OptionalLists.{is_first, get_at_index, get_of_missing}
use Rattle.moc_parts.proofs.lists.Lists.get.Goals as goal

pub index-requires : goal.index-requires
index-requires c =
    let within = (is_first c.deref.result.now c.args.part c.in-Some.i (sym c.index_of_part.ensures.place ∙ c.in-Some.is)).within in
    subst (λ n. c.in-Some.i < n) c.deref.ensures.len within

pub returns-in-Some : goal.returns-in-Some
returns-in-Some c =
    let lists = c.self.inside.lists.items in
    let place = ap (λ xs. index_of_part_from 0 xs c.args.part) (sym c.deref.ensures.value) ∙ sym c.index_of_part.ensures.place ∙ c.in-Some.is in
    c.as_ref.ensures.value ∙ get_at_index lists c.args.part c.in-Some.i c.index.result.now c.index_of_part.ensures.in_range place c.index.ensures ∙ ap (λ l. get_or l c.args.part None) c.self.view_is

pub returns-in-None : goal.returns-in-None
returns-in-None c =
    let lists = c.self.inside.lists.items in
    let place = ap (λ xs. index_of_part_from 0 xs c.args.part) (sym c.deref.ensures.value) ∙ sym c.index_of_part.ensures.place ∙ c.in-None.is in
    get_of_missing lists c.args.part c.index_of_part.ensures.in_range place ∙ ap (λ l. get_or l c.args.part None) c.self.view_is
