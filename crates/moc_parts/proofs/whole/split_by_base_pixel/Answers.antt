use Rattle.std.proofs.Common.{◌≡◌, ℕ, sym, ap, ◌∙◌, arith}
use Rattle.moc_ranges.specs.Operations.{part_of}
use Rattle.moc_parts.specs.Lemmas.{all_parts}
use Rattle.moc_parts.specs.Parts.{parts_below}
use Rattle.moc_parts.proofs.Twelve.{parts_below-none, parts_below_next}
use Rattle.moc_parts.proofs.whole.split_by_base_pixel.Goals as goal

pub loop-part-init : goal.loop-part-init
loop-part-init c = (c.in_ok-parts.ensures.items ∙ sym (parts_below-none c.args.set.now), λ later. absurd (omega arith))

pub loop-part-preserved : goal.loop-part-preserved
loop-part-preserved c =
    let b : ℕ = c.loop-part.part-index in
    let is : c.get.result ≡ b = c.get.ensures.value ∙ all_parts b c.part-item.result c.loop-part-test.true in (
      c.in_ok-push.ensures.items ∙ parts_below_next c.loop-part.parts.items c.args.set.now b c.loop-part.invariant.0 c.in_ok-part.field-0
          (c.in_ok-part.ensures.part ∙ ap (part_of c.args.set.now) is),
      λ later. c.in_ok-part.ensures.within,
    )

pub returns : goal.returns
returns c =
    let twelve : c.loop-part.part-index ≡ 12 = (let low = c.loop-part-test.false in let high = c.loop-part.auto.part-index-end in omega arith) in
    record {
      parts = c.loop-part.invariant.0 ∙ ap (parts_below c.args.set.now) twelve;
      within = c.loop-part.invariant.1 (omega arith);
    }
