-- Nodes and blocks that are appended whole.
use Rattle.std.proofs.Common.{ℕ, List, [], ◌++◌, refl, sym, ap, subst, ◌∙◌, arith, append_assoc}
use Rattle.moc_blocks.specs.RangeList.{IsNormal}
use Rattle.moc_blocks.specs.Private.Blocks.{next_of}
use Rattle.moc_blocks.specs.Private.Built.{EndsBelow, CanAppend, MovesPrefix}
use Rattle.moc_blocks.proofs.Blocking.{IsNormal-suffix, append_empty}
use Rattle.moc_blocks.proofs.Merging.{ends_next, EndsBelow-append, EndsBelow-more}
use Rattle.moc_operations.proofs.Merging.{next_of_suffix}

pub moved_prefix_of_nothing : (ks xs : List (ℕ × ℕ)) (limit : ℕ) → IsNormal ks → MovesPrefix xs xs limit ks ks
moved_prefix_of_nothing ks xs limit built = record { removed = []; parts = refl; below = tt; built = built; kept = sym (append_empty ks) }

pub moved_prefix_transitive : (ks ks' ks'' xs xs' xs'' : List (ℕ × ℕ)) (limit : ℕ) → MovesPrefix xs xs' limit ks ks' → MovesPrefix xs' xs'' limit ks' ks'' → MovesPrefix xs xs'' limit ks ks''
moved_prefix_transitive ks ks' ks'' xs xs' xs'' limit a b = record {
  removed = a.removed ++ b.removed;
  parts = a.parts ∙ ap (λ (l : List (ℕ × ℕ)). a.removed ++ l) b.parts ∙ sym (append_assoc a.removed b.removed xs'');
  below = EndsBelow-append limit a.removed b.removed a.below b.below;
  built = b.built;
  kept = b.kept ∙ ap (λ (l : List (ℕ × ℕ)). l ++ b.removed) a.kept ∙ append_assoc ks a.removed b.removed;
}

pub normal_after_move : (ks ks' xs xs' : List (ℕ × ℕ)) (limit : ℕ) → IsNormal xs → MovesPrefix xs xs' limit ks ks' → IsNormal xs'
normal_after_move ks ks' xs xs' limit normal c = IsNormal-suffix c.removed xs' (subst IsNormal c.parts normal)

pub ends_below_after_move : (ks ks' xs xs' : List (ℕ × ℕ)) (limit : ℕ) → IsNormal xs → EndsBelow (next_of xs) ks → MovesPrefix xs xs' limit ks ks' → EndsBelow (next_of xs') ks'
ends_below_after_move ks ks' xs xs' limit normal after c =
    let whole = subst IsNormal c.parts normal in
    subst (λ (k : List (ℕ × ℕ)). EndsBelow (next_of xs') k) (sym c.kept)
    (EndsBelow-append (next_of xs') ks c.removed
    (EndsBelow-more (next_of xs) (next_of xs') ks after (omega (arith, ap next_of c.parts, next_of_suffix c.removed xs' whole))) (ends_next c.removed xs' whole))

-- the invariant of appending whole nodes and blocks
pub record IsCarrying (whole xs : List (ℕ × ℕ)) (limit : ℕ) (ks ks' : List (ℕ × ℕ)) : Type 0 where
  pub carried : MovesPrefix whole xs limit ks ks'
  pub can : CanAppend xs ks'

pub moving_start : (ks xs : List (ℕ × ℕ)) (limit : ℕ) → CanAppend xs ks → IsCarrying xs xs limit ks ks
moving_start ks xs limit can = record { carried = moved_prefix_of_nothing ks xs limit can.built; can = can }

pub moving_more : (ks ks' ks'' whole xs xs' : List (ℕ × ℕ)) (limit : ℕ) → IsCarrying whole xs limit ks ks' → MovesPrefix xs xs' limit ks' ks'' → IsCarrying whole xs' limit ks ks''
moving_more ks ks' ks'' whole xs xs' limit s c = record {
  carried = moved_prefix_transitive ks ks' ks'' whole xs xs' limit s.carried c;
  can = record { normal = normal_after_move ks' ks'' xs xs' limit s.can.normal c; built = c.built; after = ends_below_after_move ks' ks'' xs xs' limit s.can.normal s.can.after c };
}
