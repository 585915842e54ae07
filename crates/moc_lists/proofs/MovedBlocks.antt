-- Nodes and blocks that are moved to another list whole.
use Rattle.std.proofs.Common.{◌≡◌, ℕ, ◌<◌, List, ◌++◌, length, ap, subst, ◌∙◌}
use Rattle.moc_blocks.specs.RangeList.{IsNormal}
use Rattle.moc_blocks.specs.Private.Blocks.{last_of, next_of}
use Rattle.moc_blocks.specs.Private.Built.{EndsBelow, MovesPrefix}
use Rattle.moc_blocks.proofs.Blocking.{IsNormal-prefix}
use Rattle.moc_blocks.proofs.Merging.{normal_append, ends_by_last, next_append}

-- the rest of a list can follow the list that is built
pub can_append_first : (builder_state xs block xs' : List (ℕ × ℕ)) → IsNormal builder_state → IsNormal xs → xs ≡ block ++ xs' → 0 < length block → EndsBelow (next_of xs) builder_state → IsNormal (builder_state ++ block)
can_append_first builder_state xs block xs' built normal parts some after =
    normal_append builder_state block built (IsNormal-prefix block xs' (subst IsNormal parts normal))
    (subst (λ f. EndsBelow f builder_state) (ap next_of parts ∙ next_append block xs' some) after)

pub moves_first : (ks ks' xs block xs' : List (ℕ × ℕ)) (limit : ℕ) → IsNormal xs → xs ≡ block ++ xs' → last_of block < limit → IsNormal ks' → ks' ≡ ks ++ block → MovesPrefix xs xs' limit ks ks'
moves_first ks ks' xs block xs' limit normal parts below built builder_state = record {
  removed = block;
  parts = parts;
  below = ends_by_last limit block (IsNormal-prefix block xs' (subst IsNormal parts normal)) below;
  built = built;
  kept = builder_state;
}
