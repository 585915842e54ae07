use Rattle.std.proofs.lemmas.Result.{IfOk-weaker}
use Rattle.moc_operations.proofs.MovedBlocks.{moving_start, moving_more, moved_prefix_transitive}
use Rattle.moc_operations.proofs.sharing.next_after_copied.Goals as goal

pub next_after_shared-requires : goal.next_after_shared-requires
next_after_shared-requires c =
    (moving_more _ _ _ _ _ _ c.args.limit (moving_start _ _ c.args.limit c.requires) c.in_ok-push_ranges_below.ensures).can

pub returns : goal.returns
returns c = IfOk-weaker c.next_after_shared.result _ _
    (λ next rest. moved_prefix_transitive _ _ _ _ _ _ c.args.limit c.in_ok-push_ranges_below.ensures rest) c.next_after_shared.ensures
