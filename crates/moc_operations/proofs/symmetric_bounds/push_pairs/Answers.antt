use Rattle.std.proofs.Common.{◌++◌, subst, sym, ap, ◌∙◌}
use Rattle.moc_blocks.specs.Private.Built.{ranges_of}
use Rattle.moc_operations.specs.Private.SymmetricBounds.{bounds_of, AreAscendingBounds}
use Rattle.moc_operations.proofs.Bounds.{pairs_head, bounds_of_next_pair, two_items}
use Rattle.moc_operations.proofs.symmetric_bounds.push_pairs.Goals as goal

pub push-requires : goal.push-requires
push-requires c =
    let parts = two_items c.loop-rest.rest.now c.in-len2-up.len_at_least in
    let head = pairs_head _ _ _ _ 0 (subst (λ l. AreAscendingBounds 0 l) (sym (ap (λ l. bounds_of (ranges_of c.loop-rest.built) ++ l) (sym parts) ∙ c.loop-rest.invariant)) c.requires) in
    record { filled = head.0; within = head.1; after = head.2 }

pub loop-rest-preserved : goal.loop-rest-preserved
loop-rest-preserved c = bounds_of_next_pair _ _ c.loop-rest.rest.now _ _ _ _ c.in_ok-push.ensures.appended (two_items c.loop-rest.rest.now c.in-len2-up.len_at_least) c.loop-rest.invariant
