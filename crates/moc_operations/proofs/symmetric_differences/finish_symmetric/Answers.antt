use Rattle.std.proofs.Common.{◌++◌, ◌∷◌, [], ℕ, Option, refl, subst}
use Rattle.moc_operations.specs.Private.Walks.{from_current}
use Rattle.moc_blocks.specs.Private.Built.{ranges_of}
use Rattle.moc_operations.proofs.Differing.{IsFinishing, finishing_can, finishing_head, finishing_more}
use Rattle.moc_operations.proofs.symmetric_differences.finish_symmetric.Goals as goal

pub push-requires : goal.push-requires
push-requires c =
    let head = finishing_head _ _ _ _ (subst (λ (o : Option (ℕ × ℕ)). IsFinishing (ranges_of c.loop-next.built) (from_current o c.loop-next.xs) (ranges_of c.args.built ++ from_current c.args.first c.args.xs)) c.in-Some.is c.loop-next.invariant) in
    record { filled = head.0; within = head.1; after = head.2 }

pub next_after_shared-requires : goal.next_after_shared-requires
next_after_shared-requires c =
    let s = subst (λ (o : Option (ℕ × ℕ)). IsFinishing (ranges_of c.loop-next.built) (from_current o c.loop-next.xs) (ranges_of c.args.built ++ from_current c.args.first c.args.xs)) c.in-Some.is c.loop-next.invariant in
    finishing_can _ _ _ (finishing_more _ _ (c.in-Some.x ∷ []) _ _ _ s refl c.in_ok-push.ensures.appended)
