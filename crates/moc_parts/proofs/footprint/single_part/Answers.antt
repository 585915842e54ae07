use Rattle.std.proofs.Common.{◌≡◌, arith, ◌∙◌, sym, subst, ap, refl, ℕ, false, nat_eq}
use Rattle.moc_ranges.specs.Operations.{part_of}
use Rattle.moc_parts.proofs.Members.{absurd_bool}
use Rattle.moc_parts.proofs.SingleParts.{single_part_is_whole, parts_met_is_single}
use Rattle.moc_parts.proofs.footprint.single_part.Goals as goal

pub returns-clause-in_part : goal.returns-clause-in_part
returns-clause-in_part c =
    subst (λ (b : ℕ). part_of c.args.operand.now b ≡ c.args.operand.now) (sym c.of.ensures)
    (single_part_is_whole c.args.operand.now c.in_ok-b.b c.next_base_pixel-2.result (λ k some. c.in_ok-b.ensures.first k (omega arith) some) c.next_base_pixel-2.ensures.first (sym c.is_some.ensures ∙ c.if-is_some.false))

pub returns-clause-met : goal.returns-clause-met
returns-clause-met c k =
    let lies = single_part_is_whole c.args.operand.now c.in_ok-b.b c.next_base_pixel-2.result (λ j some. c.in_ok-b.ensures.first j (omega arith) some) c.next_base_pixel-2.ensures.first (sym c.is_some.ensures ∙ c.if-is_some.false) in
    parts_met_is_single c.args.operand.now c.in_ok-b.b k lies c.in_ok-b.ensures.found.2 (λ e. absurd_bool false (c.if-is_empty.ensures.empty.1 e) refl)
    ∙ ap (λ (b : ℕ). nat_eq b k) (sym c.of.ensures)
