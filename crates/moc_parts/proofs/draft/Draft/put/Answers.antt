use Rattle.std.proofs.Common.{◌≡◌, ◌∙◌, ap, sym, subst, length, Some}
use Rattle.std.specs.Prelude.{set as set_at}
use Rattle.std.proofs.lemmas.List.{length-set}
use Rattle.moc_lists.specs.RangeList.{NumberSet}
use Rattle.moc_parts.specs.Private.Drafts.{current_lists, sets_of, with_part, AreParts}
use Rattle.moc_parts.specs.Parts.{union_of}
use Rattle.moc_parts.proofs.Twelve.{parts_within, parts_below_are_parts, union_of_parts_below}
use Rattle.moc_parts.proofs.Drafting.{newest_set, with_part_within}
use Rattle.moc_parts.proofs.draft.Draft.put.Goals as goal

pub invariant_of-self-2 : goal.invariant_of-self-2
invariant_of-self-2 c =
    let before = sets_of c.self.inside.before in
    let new_lists = c.self.inside.new_lists in
    let whole : NumberSet = union_of (current_lists before new_lists) in
    subst (λ lists. AreParts (current_lists before lists) × (length lists ≡ 12)) (sym c.in_ok-put.ensures.put) (
      parts_below_are_parts (current_lists before (set_at new_lists c.args.part (Some c.args.list))) (with_part whole c.args.part c.args.list)
          (newest_set before new_lists c.args.part c.args.list c.self.invariant.0 c.self.invariant.1 c.in_ok-put.ensures.in_range c.requires)
          (with_part_within whole c.args.part c.args.list c.in_ok-put.ensures.in_range (parts_within (current_lists before new_lists) c.self.invariant.0) c.requires),
      length-set new_lists c.args.part (Some c.args.list) ∙ c.self.invariant.1,
    )

pub returns-clause-set : goal.returns-clause-set
returns-clause-set c =
    let before = sets_of c.self.inside.before in
    let new_lists = c.self.inside.new_lists in
    let whole : NumberSet = union_of (current_lists before new_lists) in
    ap (λ lists. union_of (current_lists before lists)) c.in_ok-put.ensures.put
    ∙ union_of_parts_below (current_lists before (set_at new_lists c.args.part (Some c.args.list))) (with_part whole c.args.part c.args.list)
    (newest_set before new_lists c.args.part c.args.list c.self.invariant.0 c.self.invariant.1 c.in_ok-put.ensures.in_range c.requires)
    (with_part_within whole c.args.part c.args.list c.in_ok-put.ensures.in_range (parts_within (current_lists before new_lists) c.self.invariant.0) c.requires)
    ∙ ap (λ d. with_part d.set c.args.part c.args.list) c.self.view_is
