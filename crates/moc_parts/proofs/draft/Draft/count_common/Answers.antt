use Rattle.std.proofs.Common.{◌≡◌, ◌+◌, ℕ, ap, ◌∙◌, arith}
use Rattle.std.specs.FinSet as set
use Rattle.moc_lists.specs.RangeList.{NumberSet}
use Rattle.moc_parts.specs.Commands.{parts_met}
use Rattle.moc_parts.specs.Lemmas.{IsNext, all_remain, next_remaining, none_remaining}
use Rattle.moc_parts.proofs.Twelve.{first_parts}
use Rattle.moc_parts.proofs.Sums.{len_none, len-next, len-upto, added_bound, common-met}
use Rattle.moc_parts.proofs.draft.Draft.count_common.Goals as goal

pub loop-part-init : goal.loop-part-init
loop-part-init c = (
  0,
  all_remain (parts_met c.args.other.now) c.parts_met-part-items.result c.into_iter-part-iterator.result c.parts_met-part-items.ensures.parts c.into_iter-part-iterator.ensures.into_iter_gives,
  len_none c.args.self.now.set c.args.other.now,
)

pub loop-part-preserved : goal.loop-part-preserved
loop-part-preserved c =
    let a : NumberSet = c.args.self.now.set in
    let s : NumberSet = c.args.other.now in
    let b : ℕ = c.in-Some.part in
    let n : ℕ = c.loop-part.invariant.0 in
    let next : IsNext (parts_met s) n b c.next.new.self = next_remaining (parts_met s) n b c.loop-part.part-iterator c.next.new.self c.loop-part.invariant.1 c.in-Some.ensures.steps in
    let old : c.loop-part.total ≡ set.len (set.intersection (first_parts a b) s) = c.loop-part.invariant.2 ∙ len-upto a s n b next.after next.between in
    (b + 1, next.remains, (λ i. old i + c.count_common_in_part-total.ensures i) ∙ len-next a s b)

pub overflow_add-total : goal.overflow_add-total
overflow_add-total c =
    let a : NumberSet = c.args.self.now.set in
    let s : NumberSet = c.args.other.now in
    let b : ℕ = c.in-Some.part in
    let n : ℕ = c.loop-part.invariant.0 in
    let next : IsNext (parts_met s) n b c.next.new.self = next_remaining (parts_met s) n b c.loop-part.part-iterator c.next.new.self c.loop-part.invariant.1 c.in-Some.ensures.steps in
    let old : c.loop-part.total ≡ set.len (set.intersection (first_parts a b) s) = c.loop-part.invariant.2 ∙ len-upto a s n b next.after next.between in
    omega (arith, old, c.count_common_in_part-total.ensures, added_bound a s b c.parts_met-part-items.ensures.within)

pub returns : goal.returns
returns c =
    let a : NumberSet = c.args.self.now.set in
    let s : NumberSet = c.args.other.now in
    let n : ℕ = c.loop-part.invariant.0 in
    let remains = c.loop-part.invariant.1 in
    c.loop-part.invariant.2
    ∙ len-upto a s n 12 remains.within (none_remaining (parts_met s) n c.loop-part.part-iterator remains c.in-None.ensures.steps.0)
    ∙ ap set.len (common-met a s c.parts_met-part-items.ensures.within)
