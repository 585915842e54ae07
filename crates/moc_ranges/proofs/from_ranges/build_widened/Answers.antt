use Rattle.std.proofs.Common.{◌≡◌, ◌∙◌, ◌∷◌, List, ℕ, ap, sym, subst, map}
use Rattle.std.proofs.lemmas.Result.{IfOk-weaker}
use Rattle.moc_blocks.specs.RangeList.{IsNormal, set_of}
use Rattle.moc_ranges.specs.Private.Widen.{widen}
use Rattle.moc_blocks.specs.Private.Built.{ranges_of}
use Rattle.moc_blocks.proofs.Building.{last_open_nonempty, open_within, open_after}
use Rattle.moc_ranges.proofs.Building.{lengthened_start, lengthened_more, lengthened_all}
use Rattle.moc_ranges.proofs.Views.{same_view}
use Rattle.moc_ranges.proofs.Widening.{size_sorted}
use Rattle.moc_ranges.proofs.from_ranges.build_widened.Goals as goal

-- the next range after widening
widened_first : (xs rest : List (ℕ × ℕ)) (range wide : ℕ × ℕ) (size : ℕ) → xs ≡ range ∷ rest → wide ≡ widen size range → map (widen size) xs ≡ wide ∷ map (widen size) rest
widened_first xs rest range wide size steps is = ap (map (widen size)) steps ∙ ap (λ (r : ℕ × ℕ). r ∷ map (widen size) rest) (sym is)

pub loop-from-init : goal.loop-from-init
loop-from-init c =
    let w = c.args.size in
    let same = c.into_iter-from-iterator.ensures.into_iter_gives in
    let range : ℕ × ℕ = (c.in-Some.from, c.in-Some.to) in
    let steps = c.in-Some.ensures.steps ∙ ap (λ (rest : List (ℕ × ℕ)). range ∷ rest) (sym same) in
    let normal = subst IsNormal steps c.requires.ranges in
    record {
      continues = (tt, tt);
      normal = normal.3;
      joined = lengthened_start _ (map (widen w) c.into_iter-from-iterator.result) (map (widen w) c.args.ranges) c.widen_range-last.result (ap ranges_of c.in_ok-built.ensures) (size_sorted w c.args.ranges c.requires.size c.requires.ranges) (widened_first c.args.ranges c.into_iter-from-iterator.result range c.widen_range-last.result w steps c.widen_range-last.ensures);
    }

pub loop-from-preserved : goal.loop-from-preserved
loop-from-preserved c =
    let w = c.args.size in
    let range : ℕ × ℕ = (c.in-Some-2.from, c.in-Some-2.to) in
    let normal = subst IsNormal c.in-Some-2.ensures.steps c.loop-from.invariant.normal in
    record {
      continues = (tt, tt);
      normal = normal.3;
      joined = lengthened_more _ _ (map (widen w) c.loop-from.from-iterator) (map (widen w) c.next-in-loop-from.new.self) (map (widen w) c.args.ranges) _ _ c.widen_range-next.result c.loop-from.invariant.joined (widened_first c.loop-from.from-iterator c.next-in-loop-from.new.self range c.widen_range-next.result w c.in-Some-2.ensures.steps c.widen_range-next.ensures) c.in_ok-last.ensures.opened c.in_ok-last.ensures.later c.in_ok-last.ensures.same;
    }

pub push-requires-clause-filled : goal.push-requires-clause-filled
push-requires-clause-filled c = last_open_nonempty _ c.loop-from.last c.loop-from.invariant.joined.opened

pub push-requires-clause-within : goal.push-requires-clause-within
push-requires-clause-within c = open_within _ c.loop-from.last c.loop-from.invariant.joined.opened

pub push-requires-clause-after : goal.push-requires-clause-after
push-requires-clause-after c = open_after _ c.loop-from.last c.loop-from.invariant.joined.opened

pub returns : goal.returns
returns c =
    IfOk-weaker c.finish-2.result _ _
    (λ made is. ap set_of is ∙ same_view _ (map (widen c.args.size) c.args.ranges)
    (lengthened_all _ (map (widen c.args.size) c.loop-from.from-iterator) _ _ c.loop-from.last c.loop-from.invariant.joined (ap (map (widen c.args.size)) c.in-None.ensures.steps.0) c.in_ok-push.ensures.appended))
    c.finish-2.ensures
