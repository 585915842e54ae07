use Rattle.std.proofs.Common.{◌≡◌, suc, take, sym, ap, ◌∙◌, arith}
use Rattle.moc_operations.specs.Private.Meeting.{end_of}
use Rattle.moc_operations.proofs.GapsOf.{end_before}
use Rattle.moc_operations.proofs.gaps.Gaps.low_at.Goals as goal

pub returns-in-Some : goal.returns-in-Some
returns-in-Some c =
    let gaps = c.args.self.now in
    let place : c.args.place ≡ suc c.in-Some.before = omega (arith, c.in-Some.ensures) in
    sym (ap (λ n. end_of gaps.low (take n gaps.ranges.now)) place ∙ end_before gaps.low gaps.ranges.now c.in-Some.before (omega (arith, place, c.requires)))
