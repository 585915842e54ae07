use Rattle.std.proofs.Common.{◌<◌, length, refl, ◌∙◌, arith}
use Rattle.moc_operations.proofs.MeetingOn.{intersects_nothing, intersects_next, meets_more, small_byte}
use Rattle.moc_operations.proofs.range_intersection.intersect_ranges.Goals as goal

pub loop-first-init : goal.loop-first-init
loop-first-init g c = record {
  met = λ before bx by can. intersects_nothing c.args.xs.now (g.T.RangesByPosition.ranges c.args.others.now) bx by before can;
  buffer = refl;
  first_within = omega arith;
  second_within = omega arith;
  made_within = omega arith;
  slice = omega arith;
}

pub loop-first-preserved : goal.loop-first-preserved
loop-first-preserved g c =
    let i = c.loop-first.invariant in
    let e = c.write_if_nonempty-written.ensures in
    let s = c.from-step.ensures in
    let t = small_byte _ _ _ s in
    let there : c.loop-first.second < length (g.T.RangesByPosition.ranges c.args.others.now) = omega (arith, c.if-second-count.true, c.count-count.ensures) in
    record {
      met = λ before bx by can. meets_more _ _ _ _ _ _ _ _ _ (i.met before bx by can)
          (intersects_next c.args.xs.now (g.T.RangesByPosition.ranges c.args.others.now) bx by before _ _ c.loop-first.first c.loop-first.second c.from-step.result c.max.result c.min.result _ _ (i.met before bx by can).can c.loop-first-test.true there refl c.at-y.ensures c.max.ensures c.min.ensures s e.appended);
      buffer = e.capacity ∙ i.buffer;
      first_within = omega (arith, t, c.loop-first-test.true);
      second_within = omega (arith, there);
      made_within = omega (arith, e.more, e.capacity, c.if-written-out.true);
      slice = omega (arith, e.more, i.slice, t);
    }
