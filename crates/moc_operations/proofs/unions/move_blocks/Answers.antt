use Rattle.std.proofs.Common.{◌<◌, Bool, length, subst}
use Rattle.std.specs.Bool.{OnTrue}
use Rattle.moc_blocks.specs.Private.Built.{EndsBelow}
use Rattle.moc_operations.proofs.Merging.{can_carry, carried}
use Rattle.moc_operations.proofs.unions.move_blocks.Goals as goal

pub push_shared_next-requires : goal.push_shared_next-requires
push_shared_next-requires c = can_carry _ _ c.args.limit c.requires (subst (λ f. EndsBelow f c.args.built.now.loose) c.next_from.ensures c.if-ends_before.ensures.below)

pub returns-then-carried : goal.returns-then-carried
returns-then-carried c =
    carried _ _ c.args.xs.now c.push_shared_next.new.xs c.args.limit c.requires (subst (λ f. EndsBelow f c.args.built.now.loose) c.next_from.ensures c.if-ends_before.ensures.below) c.in_ok-carried.ensures.carried
    (subst (λ (t : Bool). OnTrue t (length c.push_shared_next.new.xs < length c.args.xs.now)) c.if-carried.true c.in_ok-carried.ensures.some)
