use Rattle.std.proofs.Common.{subst}
use Rattle.moc_blocks.specs.Private.Built.{EndsBelow}
use Rattle.moc_lists.proofs.MovedBlocks.{can_append_first, moves_first}
use Rattle.moc_operations.proofs.Merging.{can_carry, carried}
use Rattle.moc_blocks.proofs.Basics.{part_shorter, from_two_ok}
use Rattle.moc_operations.proofs.unions.move_ranges.Goals as goal

pub push_all-requires : goal.push_all-requires
push_all-requires c =
    let can = can_carry _ _ c.args.limit c.requires (subst (λ f. EndsBelow f c.args.built.now.loose) c.next_from.ensures c.if-ends_before.ensures.below) in
    record { normal = can_append_first _ c.args.xs.now c.in-Some.ranges.now c.take_ranges_below.new.self can.built can.normal c.in-Some.ensures.parts c.in-Some.ensures.some can.after }

pub returns-in-Some : goal.returns-in-Some
returns-in-Some c = from_two_ok c.push_all.result c.push_all.ensures.built c.push_all.ensures.appended (λ built kept.
    carried _ _ c.args.xs.now c.take_ranges_below.new.self c.args.limit c.requires (subst (λ f. EndsBelow f c.args.built.now.loose) c.next_from.ensures c.if-ends_before.ensures.below)
    (moves_first _ _ c.args.xs.now c.in-Some.ranges.now c.take_ranges_below.new.self c.args.limit c.requires.normal c.in-Some.ensures.parts c.in-Some.ensures.below built kept)
    (part_shorter _ _ _ c.in-Some.ensures.parts c.in-Some.ensures.some))
