use Rattle.std.proofs.Common.{◌∙◌, ◌-◌, take, drop, length, get_or, ap, sym, arith}
use Rattle.std.proofs.lemmas.Result.{IfOk-weaker}
use Rattle.std.proofs.lemmas.List.{drop_more, drop_all}
use Rattle.moc_blocks.proofs.Building.{last_open_nonempty, open_within, open_after}
use Rattle.moc_ranges.proofs.Building.{lengthened_start, lengthened_more, lengthened_all, lengthened_next}
use Rattle.moc_blocks.proofs.Basics.{first_item}
use Rattle.moc_ranges.proofs.Views.{same_view}
use Rattle.moc_blocks.specs.RangeList.{set_of}
use Rattle.moc_blocks.specs.Private.Built.{ranges_of}
use Rattle.moc_blocks.proofs.Blocking.{none_there}
use Rattle.moc_ranges.proofs.from_ranges.build.Goals as goal

pub loop-pair-init : goal.loop-pair-init
loop-pair-init c =
    lengthened_start _ _ c.args.pairs.now _ (ap ranges_of c.in_ok-built.ensures) c.requires (first_item c.args.pairs.now (0, 0) c.in-len1-up.len_at_least)

pub loop-pair-preserved : goal.loop-pair-preserved
loop-pair-preserved c =
    let others = take (length c.args.pairs.now - 1) (drop 1 c.args.pairs.now) in
    lengthened_more _ _ _ _ _ _ _ (get_or others c.loop-pair.pair-index (0, 0)) c.loop-pair.invariant (drop_more others c.loop-pair.pair-index (0, 0) c.loop-pair-test.true) c.in_ok-last.ensures.opened c.in_ok-last.ensures.later c.in_ok-last.ensures.same

pub push-requires-clause-filled : goal.push-requires-clause-filled
push-requires-clause-filled c = last_open_nonempty _ c.loop-pair.last c.loop-pair.invariant.opened

pub push-requires-clause-within : goal.push-requires-clause-within
push-requires-clause-within c = open_within _ c.loop-pair.last c.loop-pair.invariant.opened

pub push-requires-clause-after : goal.push-requires-clause-after
push-requires-clause-after c = open_after _ c.loop-pair.last c.loop-pair.invariant.opened

pub returns : goal.returns
returns c =
    let others = take (length c.args.pairs.now - 1) (drop 1 c.args.pairs.now) in
    IfOk-weaker c.finish-2.result _ _
    (λ made is. ap set_of is ∙ same_view _ c.args.pairs.now
    (lengthened_all _ _ _ _ c.loop-pair.last c.loop-pair.invariant (drop_all c.loop-pair.pair-index others c.loop-pair-test.false) c.in_ok-push.ensures.appended))
    c.finish-2.ensures

pub returns-in_default : goal.returns-in_default
returns-in_default c =
    let none = none_there c.args.pairs.now (omega (arith, c.in_default.len_below)) in
    IfOk-weaker c.finish.result _ _
    (λ made is. ap set_of (is ∙ ap ranges_of c.in_ok-built.ensures ∙ sym none))
    c.finish.ensures

pub extend_or_push-requires-clause-filled : goal.extend_or_push-requires-clause-filled
extend_or_push-requires-clause-filled c =
    let others = take (length c.args.pairs.now - 1) (drop 1 c.args.pairs.now) in
    (lengthened_next c.loop-pair.last _ _ _ c.loop-pair.invariant.sorted (drop_more others c.loop-pair.pair-index (0, 0) c.loop-pair-test.true)).1

pub extend_or_push-requires-clause-within : goal.extend_or_push-requires-clause-within
extend_or_push-requires-clause-within c =
    let others = take (length c.args.pairs.now - 1) (drop 1 c.args.pairs.now) in
    (lengthened_next c.loop-pair.last _ _ _ c.loop-pair.invariant.sorted (drop_more others c.loop-pair.pair-index (0, 0) c.loop-pair-test.true)).2

pub extend_or_push-requires-clause-later : goal.extend_or_push-requires-clause-later
extend_or_push-requires-clause-later c =
    let others = take (length c.args.pairs.now - 1) (drop 1 c.args.pairs.now) in
    (lengthened_next c.loop-pair.last _ _ _ c.loop-pair.invariant.sorted (drop_more others c.loop-pair.pair-index (0, 0) c.loop-pair-test.true)).0
