use Rattle.std.proofs.Common.{◌≡◌, ◌+◌, ◌∙◌, ℕ, refl, sym, ap, subst, arith}
use Rattle.std.specs.FinSet as set
use Rattle.moc_lists.specs.RangeList.{NumberSet}
use Rattle.moc_ranges.specs.Operations.{part_of, symmetric}
use Rattle.moc_parts.specs.Private.Changes.{set_after_change, changed_part, IsPartUpdate}
use Rattle.moc_parts.specs.Private.Drafts.{with_part}
use Rattle.moc_parts.proofs.PartTheorem.{changed_within}
use Rattle.moc_parts.proofs.Sums.{size_bound}
use Rattle.moc_parts.proofs.ChangedPixels.{changed_in_part, changes_within}
use Rattle.moc_parts.proofs.Changing.{IsTurn, walk_begins, walk_ends, next_part_to_change, turn_is_complete, turn_parts_left}
use Rattle.moc_parts.proofs.Drafting.{with_next, part_of_part_same, part_was, part_becomes}
use Rattle.moc_parts.proofs.draft.Draft.change.Goals as goal

pub loop-part-init : goal.loop-part-init
loop-part-init c =
    (0, walk_begins c.args.change.now c.args.self.now.set c.parts-part-items.result c.into_iter-part-iterator.result c.parts-part-items.ensures c.into_iter-part-iterator.ensures.into_iter_gives, refl)

pub part-requires-in-loop-part-clause-list : goal.part-requires-in-loop-part-clause-list
part-requires-in-loop-part-clause-list c =
    let b : ℕ = c.in-Some.part in
    ap (λ p. part_of p b) c.part.ensures.list ∙ part_of_part_same c.loop-part.self.set b ∙ sym c.part.ensures.list

pub overflow_add-changed_pixels : goal.overflow_add-changed_pixels
overflow_add-changed_pixels c =
    let change = c.args.change.now in
    let old : NumberSet = c.args.self.now.set in
    let new : NumberSet = set_after_change change old in
    let b : ℕ = c.in-Some.part in
    let turn : IsTurn change old c.loop-part.self.set c.loop-part.changed_pixels b c.next.new.self =
    next_part_to_change change c.requires old c.loop-part.self.set c.loop-part.changed_pixels c.loop-part.invariant.0 b c.loop-part.part-iterator c.next.new.self
    c.in-Some.ensures.steps c.loop-part.invariant.1 in
    let part : c.part.result.now ≡ part_of old b = part_was new old c.loop-part.self.set c.part.result.now b turn.half c.part.ensures.list in
    let becomes = part_becomes change c.requires old c.part.result.now b part in
    let did = subst (IsPartUpdate c.part.result.now (changed_part change c.part.result.now b)) c.in-Some-2.is c.in_ok-list.ensures in
    let more : c.in-Some-2.field-0.pixels ≡ set.len (part_of (symmetric new old) b) = did.1 ∙ changed_in_part new old c.part.result.now _ b part becomes in
    let within = c.prove_in_sky.ensures in
    let bound = size_bound (symmetric new old) b (changes_within new old (changed_within change old c.requires within) within) in
    omega (arith, turn.count, more, bound)

pub put-requires : goal.put-requires
put-requires c =
    let change = c.args.change.now in
    let old : NumberSet = c.args.self.now.set in
    let new : NumberSet = set_after_change change old in
    let b : ℕ = c.in-Some.part in
    let turn : IsTurn change old c.loop-part.self.set c.loop-part.changed_pixels b c.next.new.self =
    next_part_to_change change c.requires old c.loop-part.self.set c.loop-part.changed_pixels c.loop-part.invariant.0 b c.loop-part.part-iterator c.next.new.self
    c.in-Some.ensures.steps c.loop-part.invariant.1 in
    let part : c.part.result.now ≡ part_of old b = part_was new old c.loop-part.self.set c.part.result.now b turn.half c.part.ensures.list in
    let becomes = part_becomes change c.requires old c.part.result.now b part in
    let did = subst (IsPartUpdate c.part.result.now (changed_part change c.part.result.now b)) c.in-Some-2.is c.in_ok-list.ensures in
    let list : c.in-Some-2.field-0.list ≡ part_of new b = did.0 ∙ becomes in
    ap (λ p. part_of p b) list ∙ part_of_part_same new b ∙ sym list

pub loop-part-preserved-in-Continue-branch-3 : goal.loop-part-preserved-in-Continue-branch-3
loop-part-preserved-in-Continue-branch-3 c =
    let change = c.args.change.now in
    let old : NumberSet = c.args.self.now.set in
    let new : NumberSet = set_after_change change old in
    let b : ℕ = c.in-Some.part in
    let turn : IsTurn change old c.loop-part.self.set c.loop-part.changed_pixels b c.next.new.self =
    next_part_to_change change c.requires old c.loop-part.self.set c.loop-part.changed_pixels c.loop-part.invariant.0 b c.loop-part.part-iterator c.next.new.self
    c.in-Some.ensures.steps c.loop-part.invariant.1 in
    let part : c.part.result.now ≡ part_of old b = part_was new old c.loop-part.self.set c.part.result.now b turn.half c.part.ensures.list in
    let becomes = part_becomes change c.requires old c.part.result.now b part in
    let did = subst (IsPartUpdate c.part.result.now (changed_part change c.part.result.now b)) c.in-Some-2.is c.in_ok-list.ensures in
    let more : c.in-Some-2.field-0.pixels ≡ set.len (part_of (symmetric new old) b) = did.1 ∙ changed_in_part new old c.part.result.now _ b part becomes in
    let list : c.in-Some-2.field-0.list ≡ part_of new b = did.0 ∙ becomes in (
      b + 1,
      turn_is_complete change old c.loop-part.self.set _ c.loop-part.changed_pixels c.in-Some-2.field-0.pixels b c.next.new.self turn
          (c.in_ok-put.ensures.set ∙ (λ i. with_part (turn.half i) b (list i)) ∙ with_next new old b) more,
      c.in_ok-put.ensures.before ∙ c.loop-part.invariant.2,
    )

pub loop-part-preserved : goal.loop-part-preserved
loop-part-preserved c =
    let change = c.args.change.now in
    let old : NumberSet = c.args.self.now.set in
    let new : NumberSet = set_after_change change old in
    let b : ℕ = c.in-Some.part in
    let turn : IsTurn change old c.loop-part.self.set c.loop-part.changed_pixels b c.next.new.self =
    next_part_to_change change c.requires old c.loop-part.self.set c.loop-part.changed_pixels c.loop-part.invariant.0 b c.loop-part.part-iterator c.next.new.self
    c.in-Some.ensures.steps c.loop-part.invariant.1 in
    let part : c.part.result.now ≡ part_of old b = part_was new old c.loop-part.self.set c.part.result.now b turn.half c.part.ensures.list in
    let becomes = part_becomes change c.requires old c.part.result.now b part in
    let did = subst (IsPartUpdate c.part.result.now (changed_part change c.part.result.now b)) c.in_default.is c.in_ok-list.ensures in (
      b + 1,
      turn_parts_left change old c.loop-part.self.set c.loop-part.changed_pixels b c.next.new.self turn (sym becomes ∙ did ∙ part),
      c.loop-part.invariant.2,
    )

pub returns : goal.returns
returns c =
    let end = walk_ends c.args.change.now c.requires c.args.self.now.set c.loop-part.self.set c.loop-part.changed_pixels c.loop-part.invariant.0 c.loop-part.part-iterator c.prove_in_sky.ensures
    c.in-None.ensures.steps.0 c.loop-part.invariant.1 in
    record { set = end.0; changed_pixels = end.1; within = c.prove_in_sky.ensures; before = c.loop-part.invariant.2 }
