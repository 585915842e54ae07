use Rattle.std.proofs.Common.{◌∙◌, List, ℕ, ap, sym, subst}
use Rattle.moc_blocks.specs.RangeList.{IsNormal, set_of}
use Rattle.moc_blocks.specs.Private.Built.{EndsBelow}
use Rattle.moc_blocks.proofs.Building.{pushed_normal}
use Rattle.moc_ranges.proofs.Gathering.{set_of-push}
use Rattle.moc_ranges.proofs.from_ranges.append.Goals as goal

pub returns-then-end_below-clause-normal : goal.returns-then-end_below-clause-normal
returns-then-end_below-clause-normal c =
    let below = subst (λ (l : List (ℕ × ℕ)). EndsBelow c.args.from l) c.deref.ensures.value c.if-end_below.ensures.below in
    subst IsNormal (sym c.in_ok-push.ensures.items)
    (pushed_normal c.args.ranges.now.items (c.args.from, c.args.to) c.requires.normal c.requires.ascending c.requires.within below)

pub returns-then-end_below-clause-set : goal.returns-then-end_below-clause-set
returns-then-end_below-clause-set c = ap set_of c.in_ok-push.ensures.items ∙ set_of-push c.args.ranges.now.items (c.args.from, c.args.to)
