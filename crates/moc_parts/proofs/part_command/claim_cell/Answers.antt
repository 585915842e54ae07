use Rattle.std.proofs.Common.{cond, sym, ap, ◌∙◌}
use Rattle.std.specs.FinSet as set
use Rattle.moc_lists.specs.RangeList.{NumberSet}
use Rattle.moc_ranges.specs.Cells.{span}
use Rattle.moc_parts.specs.declared.reply.Reply.{Reply}
use Rattle.moc_parts.specs.declared.reply.Reply.TheVariants.{Taken, Claimed}
use Rattle.moc_parts.proofs.Counts.{meets_some_common, meets_no_common}
use Rattle.moc_parts.proofs.part_command.claim_cell.Goals as goal

pub returns-then-common-gt0-clause-set : goal.returns-then-common-gt0-clause-set
returns-then-common-gt0-clause-set c =
    let a : NumberSet = c.args.pixels.now in
    let s : NumberSet = span c.args.cell.order c.args.cell.index in
    sym (ap (λ b. cond b a (set.union a s)) (meets_some_common a s _ c.count_cell-common.ensures c.if-common-gt0.true))

pub returns-then-common-gt0-clause-reply : goal.returns-then-common-gt0-clause-reply
returns-then-common-gt0-clause-reply c =
    let a : NumberSet = c.args.pixels.now in
    let s : NumberSet = span c.args.cell.order c.args.cell.index in
    ap Taken c.count_cell-common.ensures
    ∙ sym (ap (λ b. cond {A = Reply} b (Taken (set.len (set.intersection a s))) Claimed) (meets_some_common a s _ c.count_cell-common.ensures c.if-common-gt0.true))

pub returns-clause-set : goal.returns-clause-set
returns-clause-set c =
    let a : NumberSet = c.args.pixels.now in
    let s : NumberSet = span c.args.cell.order c.args.cell.index in
    c.in_ok-insert_cell.ensures.set
    ∙ sym (ap (λ b. cond b a (set.union a s)) (meets_no_common a s _ c.count_cell-common.ensures c.if-common-gt0.false))

pub returns-clause-reply : goal.returns-clause-reply
returns-clause-reply c =
    let a : NumberSet = c.args.pixels.now in
    let s : NumberSet = span c.args.cell.order c.args.cell.index in
    sym (ap (λ b. cond {A = Reply} b (Taken (set.len (set.intersection a s))) Claimed) (meets_no_common a s _ c.count_cell-common.ensures c.if-common-gt0.false))
