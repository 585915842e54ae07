use Rattle.std.proofs.Common.{◌/◌, ◌≤◌, ◌++◌, sym, ap, ◌∙◌, arith, append-nil}
use Rattle.std.proofs.lemmas.List.{append_assoc}
use Rattle.moc_forms.specs.Drawing.{mixed_below}
use Rattle.moc_forms.proofs.Mixed.{no_marks_between, mixed_mark, mixed_next, mixed_none}
use Rattle.moc_forms.proofs.marks.push_all_mixed.Goals as goal

pub loop-pixel-init : goal.loop-pixel-init
loop-pixel-init c = record {
  within = omega arith;
  marks = sym (ap (λ t. c.args.marks.now.items ++ t) (mixed_none c.args.layers.now) ∙ append-nil _);
}

pub loop-pixel-preserved : goal.loop-pixel-preserved
loop-pixel-preserved c =
    let found = c.in-Some.ensures.found in
    let le : c.loop-pixel.index ≤ c.in-Some.pixel / 17592186044416 = omega (arith, found.0) in
    let skipped =
    no_marks_between c.args.layers.now c.loop-pixel.index (c.in-Some.pixel / 17592186044416) le (λ q from to has.
    let first = c.in-Some.ensures.first q from has in
    omega (arith, first)) in
    record {
      within = omega (arith, found.1);
      marks =
          c.in_ok-push_mixed.ensures
          ∙ ap (λ t. t ++ mixed_mark c.args.layers.now (c.in-Some.pixel / 17592186044416)) c.loop-pixel.invariant.marks
          ∙ append_assoc c.args.marks.now.items (mixed_below c.args.layers.now c.loop-pixel.index)
          (mixed_mark c.args.layers.now (c.in-Some.pixel / 17592186044416))
          ∙ ap (λ t. c.args.marks.now.items ++ (t ++ mixed_mark c.args.layers.now (c.in-Some.pixel / 17592186044416)))
          (sym skipped)
          ∙ ap (λ t. c.args.marks.now.items ++ t)
          (sym (mixed_next c.args.layers.now (c.in-Some.pixel / 17592186044416)));
    }

pub returns : goal.returns
returns c =
    c.loop-pixel.invariant.marks
    ∙ ap (λ t. c.args.marks.now.items ++ t)
    (sym (no_marks_between c.args.layers.now c.loop-pixel.index 196608 c.loop-pixel.invariant.within (λ q from to has.
    c.in_default.ensures.first q from has)))
