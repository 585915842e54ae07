use Rattle.std.proofs.Common.{◌≡◌, ◌+◌, ◌∙◌, ℕ, false, sym, ap}
use Rattle.moc_lists.specs.RangeList.{NumberSet}
use Rattle.moc_ranges.specs.Operations.{meets, part_of}
use Rattle.moc_parts.specs.Commands.{parts_met}
use Rattle.moc_parts.specs.Lemmas.{IsNext, all_remain, next_remaining, none_remaining}
use Rattle.moc_parts.proofs.Twelve.{first_parts}
use Rattle.moc_parts.proofs.Sums.{meets-none, meets-next, meets-upto, meets-met, meets-part}
use Rattle.moc_parts.proofs.draft.Draft.meets.Goals as goal

pub loop-part-init : goal.loop-part-init
loop-part-init c = (
  0,
  all_remain (parts_met c.args.other.now) c.parts_met-part-items.result c.into_iter-part-iterator.result c.parts_met-part-items.ensures.parts c.into_iter-part-iterator.ensures.into_iter_gives,
  meets-none c.args.self.now.set c.args.other.now,
)

pub returns-then-meets : goal.returns-then-meets
returns-then-meets c =
    let b : ℕ = c.in-Some.part in
    sym (meets-part c.args.self.now.set c.args.other.now b
    (ap (λ p. meets p c.args.other.now) (sym c.part.ensures.list) ∙ sym c.meets.ensures.some ∙ c.if-meets.true))

pub loop-part-preserved : goal.loop-part-preserved
loop-part-preserved c =
    let a : NumberSet = c.args.self.now.set in
    let s : NumberSet = c.args.other.now in
    let b : ℕ = c.in-Some.part in
    let n : ℕ = c.loop-part.invariant.0 in
    let next : IsNext (parts_met s) n b c.next.new.self = next_remaining (parts_met s) n b c.loop-part.part-iterator c.next.new.self c.loop-part.invariant.1 c.in-Some.ensures.steps in
    let before : meets (first_parts a b) s ≡ false = sym (meets-upto a s n b next.after next.between) ∙ c.loop-part.invariant.2 in
    let apart : meets (part_of a b) s ≡ false =
    ap (λ p. meets p s) (sym c.part.ensures.list) ∙ sym c.meets.ensures.some ∙ c.if-meets.false in
    (b + 1, next.remains, meets-next a s b before apart)

pub returns : goal.returns
returns c =
    let a : NumberSet = c.args.self.now.set in
    let s : NumberSet = c.args.other.now in
    let n : ℕ = c.loop-part.invariant.0 in
    let remains = c.loop-part.invariant.1 in
    sym (sym (meets-met a s c.parts_met-part-items.ensures.within)
    ∙ sym (meets-upto a s n 12 remains.within (none_remaining (parts_met s) n c.loop-part.part-iterator remains c.in-None.ensures.steps.0))
    ∙ c.loop-part.invariant.2)
