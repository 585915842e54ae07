use Rattle.std.proofs.Common.{◌<◌, ◌∷◌, [], arith}
use Rattle.moc_blocks.specs.Private.Blocks.{next_of}
use Rattle.moc_blocks.proofs.Merging.{ends_next, EndsBelow-more}
use Rattle.moc_operations.proofs.Differing.{symmetric_step_after_move, symmetric_step_after_removal}
use Rattle.moc_operations.proofs.symmetric_differences.remove_first.Goals as goal

pub next_after_shared-requires : goal.next_after_shared-requires
next_after_shared-requires c =
    let next : c.args.x.1 < next_of c.args.xs.now = (ends_next (c.args.x ∷ []) c.args.xs.now c.requires.normal).0 in
    record {
      normal = c.requires.normal.3;
      built = c.in_ok-left.ensures.normal;
      after = EndsBelow-more _ (next_of c.args.xs.now) _ (c.in_ok-left.ensures.below (next_of c.args.xs.now) next) (omega arith);
    }

pub returns-clause-on : goal.returns-clause-on
returns-clause-on c = λ ys whole_xs whole_ys s.
    symmetric_step_after_move _ _ _ _ _ _ _ c.in_ok-left.left.0 (symmetric_step_after_removal _ _ _ _ _ _ c.args.x c.args.y c.in_ok-left.left s c.in_ok-left.ensures) (omega arith) c.in_ok-next.ensures
