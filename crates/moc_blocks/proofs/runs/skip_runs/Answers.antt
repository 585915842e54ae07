use Rattle.std.proofs.Common.{arith}
use Rattle.moc_blocks.proofs.Passing.{skip_start, skip_one_item, run_normal, skip_complete, skip_bounded}
use Rattle.moc_blocks.proofs.runs.skip_runs.Goals as goal

pub loop-place-init : goal.loop-place-init
loop-place-init g c = record {
  within = c.count_ended-place.ensures.bound;
  passed = skip_start g.T.Run.ranges c.args.range c.args.runs.now c.count_ended-place.result c.requires.ascending c.count_ended-place.ensures.ended;
}

pub width-common-requires : goal.width-common-requires
width-common-requires g c = run_normal g.T.Run.ranges c.args.runs.now c.loop-place.place c.index-runs-place.result c.requires.normal c.loop-place-test.true c.index-runs-place.is

pub overflow_add-common : goal.overflow_add-common
overflow_add-common g c =
    let passed = skip_one_item g.T.Run.ranges c.args.range c.args.runs.now c.loop-place.place c.loop-place.common c.width-common.result c.index-runs-place.result c.requires.normal c.loop-place.invariant c.loop-place-test.true c.index-runs-place.is (omega (arith, c.start.ensures.value, c.if-start-range.false)) (omega (arith, c.end.ensures.value, c.if-end-range.false)) c.width-common.ensures.value in
    omega (arith, skip_bounded c.args.range _ _ _ c.requires.normal passed)

pub loop-place-preserved : goal.loop-place-preserved
loop-place-preserved g c = record {
  within = omega arith;
  passed = skip_one_item g.T.Run.ranges c.args.range c.args.runs.now c.loop-place.place c.loop-place.common c.width-common.result c.index-runs-place.result c.requires.normal c.loop-place.invariant c.loop-place-test.true c.index-runs-place.is (omega (arith, c.start.ensures.value, c.if-start-range.false)) (omega (arith, c.end.ensures.value, c.if-end-range.false)) c.width-common.ensures.value;
}

pub returns : goal.returns
returns g c = skip_complete g.T.Run.ranges c.args.range c.args.runs.now c.loop-place.place c.loop-place.common c.loop-place.invariant
