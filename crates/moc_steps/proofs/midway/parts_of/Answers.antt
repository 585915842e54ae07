use Rattle.std.proofs.Common.{ℕ, List, [], ◌∷◌, ◌++◌, append-nil, append_assoc, sym, ap, ◌∙◌}
use Rattle.std.specs.FinSet as set
use Rattle.moc_parts.specs.Batches.{footprint_of_all}
use Rattle.moc_steps.proofs.Batches.{those_congruence, ascending_parts, parts_of_footprint}
use Rattle.moc_steps.proofs.midway.parts_of.Goals as goal

pub loop-part-init : goal.loop-part-init
loop-part-init c = ap (λ (bs : List ℕ). bs ++ c.into_iter-part-iterator.result) c.new-parts.ensures.items

pub loop-part-preserved : goal.loop-part-preserved
loop-part-preserved c =
    ap (λ (bs : List ℕ). bs ++ c.next.new.self) c.in_ok-push.ensures.items
    ∙ append_assoc c.loop-part.parts.items (c.in-Some.part ∷ []) c.next.new.self
    ∙ ap (λ (bs : List ℕ). c.loop-part.parts.items ++ bs) (sym c.in-Some.ensures.steps)
    ∙ c.loop-part.invariant

pub returns : goal.returns
returns c =
    let footprint = c.footprint-part-items.result in
    sym (append-nil c.loop-part.parts.items)
    ∙ ap (λ (bs : List ℕ). c.loop-part.parts.items ++ bs) (sym c.in-None.ensures.steps.0)
    ∙ c.loop-part.invariant
    ∙ c.into_iter-part-iterator.ensures.into_iter_gives
    ∙ ascending_parts footprint
    ∙ those_congruence (set.contains footprint) (footprint_of_all c.args.batch.now) 12 c.footprint-part-items.ensures.parts
    ∙ parts_of_footprint c.args.batch.now
