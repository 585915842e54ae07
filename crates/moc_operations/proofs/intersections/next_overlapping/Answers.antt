use Rattle.std.proofs.Common.{◌+◌, arith}
use Rattle.std.proofs.lemmas.Result.{IfOk-weaker}
use Rattle.moc_blocks.specs.Private.Blocks.{next_of}
use Rattle.moc_operations.specs.Private.Walks.{from_current}
use Rattle.moc_blocks.proofs.Merging.{EndsBelow-more}
use Rattle.moc_operations.proofs.InCommon.{moves_common_by_advance, moves_common_after_move}
use Rattle.moc_operations.proofs.intersections.next_overlapping.Goals as goal

pub returns-then-end-other : goal.returns-then-end-other
returns-then-end-other c =
    moves_common_by_advance _ c.args.xs.now c.next_ending_after.new.self c.args.other c.next_ending_after.result c.next_ending_after.ensures.0 c.requires.normal (omega (arith, c.requires.ascending)) c.requires.built c.requires.after c.next_ending_after.ensures.1

pub next_after_shared-requires : goal.next_after_shared-requires
next_after_shared-requires c = record { normal = c.requires.normal; built = c.requires.built; after = EndsBelow-more _ (next_of c.args.xs.now) _ c.requires.after (omega (arith, c.requires.tail, c.if-end-other.false)) }

pub returns : goal.returns
returns c =
    let after = EndsBelow-more _ (next_of c.args.xs.now) _ c.requires.after (omega (arith, c.requires.tail, c.if-end-other.false)) in
    IfOk-weaker c.next_after_shared.result _ _
    (λ next carried. moves_common_after_move _ _ c.args.xs.now (from_current next c.next_after_shared.new.xs) c.args.other (c.args.other.1 + 1) c.requires.normal (omega (arith, c.requires.tail, c.if-end-other.false)) (omega arith) after carried)
    c.next_after_shared.ensures
