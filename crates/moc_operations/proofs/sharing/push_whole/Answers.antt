use Rattle.std.proofs.Common.{◌≤◌, arith}
use Rattle.moc_blocks.specs.Private.Blocks.{next_of}
use Rattle.moc_blocks.proofs.Merging.{EndsBelow-more}
use Rattle.moc_blocks.proofs.Basics.{from_ok}
use Rattle.moc_operations.proofs.InCommon.{moves_common_by_skip, moves_common_after_move}
use Rattle.moc_operations.proofs.sharing.push_whole.Goals as goal

pub returns-then-next_from-range : goal.returns-then-next_from-range
returns-then-next_from-range c = moves_common_by_skip _ c.args.xs.now c.skip_to.new.self c.args.range c.skip_to.ensures.0 c.requires.normal c.requires.ascending c.requires.built c.requires.after c.skip_to.ensures.1

pub returns : goal.returns
returns c =
    let from : c.args.range.0 ≤ next_of c.args.xs.now = omega (arith, c.next_from.ensures, c.if-next_from-range.false) in
    let after = EndsBelow-more _ (next_of c.args.xs.now) _ c.requires.after (omega (arith, from)) in
    from_ok c.push_shared_all.result c.push_shared_all.ensures (moves_common_after_move _ _ c.args.xs.now c.push_shared_all.new.xs c.args.range c.args.limit c.requires.normal from c.requires.within after)
