use Rattle.std.proofs.Common.{◌≡◌, ℕ, ◌+◌, ◌-◌, ◌<◌, ◌≤◌, List, length, take, drop, length-take, length-drop, arith, ap, ◌∙◌, subst, le-leb}
use Rattle.std.proofs.lemmas.Bool.{lt-leb}
use mir.Val.{bool_byte}
use Rattle.moc_blocks.specs.Private.Walks.{IsCounting}
use Rattle.moc_blocks.proofs.Passing.{counts_none, counts_more, counted_past, run_from}
use Rattle.moc_blocks.proofs.runs.count_each.Goals as goal

-- the number of runs that are read
read_length : {X : Type 0} (xs : List X) (low size : ℕ) → low + size ≤ length xs → length (take (low + size - low) (drop low xs)) ≡ size
read_length xs low size within = omega (arith, within, length-take (low + size - low) (drop low xs), length-drop low xs)

pub loop-run-init : goal.loop-run-init
loop-run-init g c = counts_none g.T.Run.ranges c.args.runs.now c.args.limit c.args.low c.args.size c.requires.there

pub loop-run-preserved : goal.loop-run-preserved
loop-run-preserved g c =
    let i = c.loop-run.run-index in
    let low = c.args.low in
    let within = c.requires.there.within in
    let read : i < length (take (low + c.args.size - low) (drop low c.args.runs.now)) = c.loop-run-test.true in
    counts_more g.T.Run.ranges c.args.runs.now c.args.limit low i c.loop-run.place c.run-item.result c.from-place.result c.requires.normal
    (omega (arith, read, read_length c.args.runs.now low c.args.size within, within))
    (run_from c.args.runs.now low c.args.size i c.run-item.result read c.run-item.is) c.end.ensures.some
    (λ le. c.from-place.ensures ∙ ap bool_byte (le-leb c.end.result c.args.limit (omega (arith, c.end.ensures.value, le))))
    (λ lt. c.from-place.ensures ∙ ap bool_byte (lt-leb c.end.result c.args.limit (omega (arith, c.end.ensures.value, lt))))
    c.loop-run.invariant

pub returns-clause-bound : goal.returns-clause-bound
returns-clause-bound g c =
    let within = c.requires.there.within in
    omega (arith, c.loop-run.invariant.most, within, c.loop-run.auto.run-index-end, read_length c.args.runs.now c.args.low c.args.size within)

pub returns-clause-ended : goal.returns-clause-ended
returns-clause-ended g c = c.loop-run.invariant.before

pub returns-clause-past : goal.returns-clause-past
returns-clause-past g c =
    let within = c.requires.there.within in
    let all : c.loop-run.run-index ≡ c.args.size = omega (arith, c.loop-run-test.false, c.loop-run.auto.run-index-end, read_length c.args.runs.now c.args.low c.args.size within) in
    counted_past g.T.Run.ranges c.args.runs.now c.args.limit c.args.low c.args.size c.loop-run.place c.requires.there
    (subst (λ n. IsCounting g.T.Run.ranges c.args.runs.now c.args.limit c.args.low n c.loop-run.place) all c.loop-run.invariant)
