-- The result for a NUNIQ number, and for any other number.
use Rattle.std.proofs.Common.{sym, refl, ◌∙◌, arith, ◌≤◌}
use mathlib.Core.Bool.{true≢false}
use Rattle.moc_lines.proofs.NumberingLemmas.{no_uniq, uniq, other_uniq}
use Rattle.moc_lines.proofs.numbering.cell_of_uniq.Goals as goal

pub returns-in_default : goal.returns-in_default
returns-in_default c =
    let small : c.args.order ≤ 29 = omega (arith, c.get-depth.ensures.value, c.get-depth.ensures.in_range) in
    no_uniq c.args.order c.args.uniq small (λ range. true≢false (sym (c.in_default.ensures.found.1 range)))

pub returns-then-get-depth : goal.returns-then-get-depth
returns-then-get-depth c =
    let same = sym c.order.ensures ∙ sym c.get.ensures.value ∙ c.if-get-depth.true ∙ c.get-depth.ensures.value in
    (same, uniq c.args.order c.args.uniq c.in-Ok.cell c.in-Ok.ensures.number.0 c.in-Ok.ensures.number.1 same)

pub returns-else-get-depth : goal.returns-else-get-depth
returns-else-get-depth c =
    let small : c.args.order ≤ 29 = omega (arith, c.get-depth.ensures.value, c.get-depth.ensures.in_range) in
    other_uniq c.args.order c.args.uniq c.in-Ok.cell small (c.in-Ok.ensures.found.0 refl) c.in-Ok.ensures.only
    (λ same. c.if-get-depth.false (c.get.ensures.value ∙ c.order.ensures ∙ same ∙ sym c.get-depth.ensures.value))
