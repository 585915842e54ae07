use Rattle.std.proofs.Common.{None, sym, ap, subst, ◌∙◌, ◌<◌}
use Rattle.std.specs.Prelude.{set as set_at}
use Rattle.moc_parts.specs.Private.Drafts.{index_of_part_from}
use Rattle.moc_parts.proofs.OptionalLists.{is_first, entry_at_index, none_left}
use Rattle.moc_parts.proofs.lists.Lists.clear.Goals as goal
use Rattle.moc_parts.proofs.lists.Lists.clear.Goals.{in-Some-1, in-None-1}

pub index_mut-requires : goal.index_mut-requires
index_mut-requires c =
    let within = (is_first c.deref.result.now c.args.part c.in-Some.i (sym c.index_of_part.ensures.place ∙ c.in-Some.is)).within in
    subst (λ n. c.in-Some.i < n) c.deref.ensures.len within

pub returns-in-Some : goal.returns-in-Some
returns-in-Some c =
    let lists = c.self.inside.lists.items in
    let place = ap (λ xs. index_of_part_from 0 xs c.args.part) (sym c.deref.ensures.value) ∙ sym c.index_of_part.ensures.place ∙ c.in-Some.is in
    let left = entry_at_index lists c.args.part c.in-Some.i (c.index_mut.result.now.0, None) c.index_of_part.ensures.in_range place
    (ap (λ e. e.0) c.index_mut.ensures.value ∙ (is_first lists c.args.part c.in-Some.i place).part c.index_mut.result.now)
    ∙ ap (λ l. set_at l c.args.part None) c.self.view_is in
    elim c.match-index_mut.branch [
      | in-Some-1 w ↦ w.self-is ∙ left
      | in-None-1 w ↦ w.self-is ∙ left
    ]

pub returns-in_default : goal.returns-in_default
returns-in_default c =
    let lists = c.self.inside.lists.items in
    let place = ap (λ xs. index_of_part_from 0 xs c.args.part) (sym c.deref.ensures.value) ∙ sym c.index_of_part.ensures.place ∙ c.in_default.is in
    sym c.self.view_is ∙ none_left lists c.args.part c.index_of_part.ensures.in_range place ∙ ap (λ l. set_at l c.args.part None) c.self.view_is
