use Rattle.std.proofs.Common.{◌≡◌, ◌+◌, ◌-◌, arith, length, ℕ}
use Rattle.std.proofs.lemmas.List.{get_or_read}
use Rattle.moc_ranges.proofs.Building.{lengthened_normal, lengthened_same}
use Rattle.moc_ranges.proofs.Views.{added_view}
use Rattle.moc_ranges.proofs.from_ranges.extend_last.Goals as goal

pub returns-clause-normal : goal.returns-clause-normal
returns-clause-normal c =
    let ranges = c.args.ranges.now.items in
    let i = c.len-last.result - 1 in
    let last : ℕ × ℕ = c.index.result.now in
    let at : i + 1 ≡ length ranges = omega (arith, c.args.ranges.now.ok.0, c.requires.some) in
    let is = get_or_read ranges i last (omega arith) c.index.ensures last in
    lengthened_normal ranges i last c.args.to c.max.result c.requires.normal at is c.max.ensures c.requires.within

pub returns-clause-set : goal.returns-clause-set
returns-clause-set c =
    let ranges = c.args.ranges.now.items in
    let i = c.len-last.result - 1 in
    let last : ℕ × ℕ = c.index.result.now in
    let at : i + 1 ≡ length ranges = omega (arith, c.args.ranges.now.ok.0, c.requires.some) in
    let is = get_or_read ranges i last (omega arith) c.index.ensures last in
    added_view ranges _ (c.args.from, c.args.to)
    (lengthened_same ranges i last c.args.from c.args.to c.max.result c.requires.normal at is c.max.ensures (omega (arith, c.if-from-begin.false)) c.requires.reached c.requires.ascending)
