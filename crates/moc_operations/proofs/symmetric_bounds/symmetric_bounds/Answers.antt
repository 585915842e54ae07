use Rattle.std.proofs.Common.{◌∙◌, ◌+◌, ◌-◌, ◌<◌, arith, length, subst, get_or}
use Rattle.std.proofs.lemmas.List.{length-set}
use Rattle.moc_operations.specs.Private.SymmetricBounds.{bounds_of}
use Rattle.moc_operations.proofs.Bounds.{IsStep, bound_count, bounds_after_equal, step_all, step_of}
use Rattle.moc_operations.proofs.symmetric_bounds.symmetric_bounds.Goals as goal

pub loop-first-preserved : goal.loop-first-preserved
loop-first-preserved c =
    let i = c.loop-first.invariant in
    let t = step_of c.bound_at-x.result c.bound_at-y.result _ _ _ _ c.min.ensures c.from-written.ensures c.from-first.ensures c.from-second.ensures in
    let all = step_all _ _ _ _ _ _ t in
    let here : c.loop-first.first < length (bounds_of c.args.xs.now) = omega (arith, bound_count c.args.xs.now, c.loop-first-test.true) in
    let there : c.loop-first.second < length (bounds_of c.args.ys.now) = omega (arith, bound_count c.args.ys.now, c.if-second-ys.true) in
    let most : c.loop-first.written < length c.loop-first.out = omega (arith, i.buffer, i.even.1, here, there, bound_count c.args.xs.now, bound_count c.args.ys.now, c.requires.first_fits, c.requires.second_fits) in
    let t' : IsStep (get_or (bounds_of c.args.xs.now) c.loop-first.first 0) (get_or (bounds_of c.args.ys.now) c.loop-first.second 0) c.min.result c.from-written.result c.from-first.result c.from-second.result =
    subst (λ n. IsStep n (get_or (bounds_of c.args.ys.now) c.loop-first.second 0) c.min.result c.from-written.result c.from-first.result c.from-second.result) c.bound_at-x.ensures (subst (λ n. IsStep c.bound_at-x.result n c.min.result c.from-written.result c.from-first.result c.from-second.result) c.bound_at-y.ensures t) in
    record {
      crossed = λ kept bx by wx wy s. bounds_after_equal kept (bounds_of c.args.xs.now) (bounds_of c.args.ys.now) bx by c.loop-first.out wx wy c.loop-first.written c.loop-first.first c.loop-first.second c.min.result c.from-written.result c.from-first.result c.from-second.result (i.crossed kept bx by wx wy s) here there most t';
      buffer = length-set c.loop-first.out c.loop-first.written c.min.result ∙ i.buffer;
      first_within = omega (arith, all.1, c.loop-first-test.true);
      second_within = omega (arith, all.2, c.if-second-ys.true);
      even = (i.even.0 + (1 - c.from-written.result), omega (arith, i.even.1, all.3, all.0));
    }

pub returns-else-second-ys-clause-written : goal.returns-else-second-ys-clause-written
returns-else-second-ys-clause-written c = let i = c.loop-first.invariant in omega (arith, i.buffer, i.even.1, i.first_within, i.second_within, c.requires.first_fits, c.requires.second_fits)

pub returns-after-loop-first-clause-written : goal.returns-after-loop-first-clause-written
returns-after-loop-first-clause-written c = let i = c.loop-first.invariant in omega (arith, i.buffer, i.even.1, i.first_within, i.second_within, c.requires.first_fits, c.requires.second_fits)
