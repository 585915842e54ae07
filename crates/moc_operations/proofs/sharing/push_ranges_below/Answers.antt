use Rattle.moc_blocks.proofs.Basics.{from_two_ok}
use Rattle.moc_lists.proofs.MovedBlocks.{can_append_first, moves_first}
use Rattle.moc_operations.proofs.sharing.push_ranges_below.Goals as goal

pub push_all-requires : goal.push_all-requires
push_all-requires c = record {
  normal = can_append_first _ c.args.xs.now c.in-Some.ranges.now c.take_ranges_below.new.self c.requires.built c.requires.normal
      c.in-Some.ensures.parts c.in-Some.ensures.some c.requires.after;
}

pub returns-in-Some : goal.returns-in-Some
returns-in-Some c =
    from_two_ok c.push_all.result c.push_all.ensures.built c.push_all.ensures.appended (λ built appended.
    moves_first _ _ c.args.xs.now c.in-Some.ranges.now c.take_ranges_below.new.self c.args.limit c.requires.normal
    c.in-Some.ensures.parts c.in-Some.ensures.below built appended)
