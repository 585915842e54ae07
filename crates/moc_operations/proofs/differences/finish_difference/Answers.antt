use Rattle.std.proofs.Common.{◌≡◌, ◌∷◌, ◌≤◌, min, [], List, ℕ, Some, subst, sym, refl, arith}
use Rattle.moc_operations.specs.Private.Meeting.{CanIntersect, Intersects, gaps_of}
use Rattle.moc_blocks.specs.Private.Built.{ranges_of}
use Rattle.moc_operations.proofs.Walking.{from_current_of_steps}
use Rattle.moc_operations.proofs.MeetingOn.{meets_none, meets_more, intersects_after_common_move, meets_first}
use Rattle.moc_operations.proofs.differences.finish_difference.Goals as goal

pub loop-built-init : goal.loop-built-init
loop-built-init c = meets_none _ _ _ c.requires

pub push_part-requires-clause-within : goal.push_part-requires-clause-within
push_part-requires-clause-within c =
    let taken = intersects_after_common_move _ _ c.loop-built.xs c.push_whole.new.xs (gaps_of c.args.low []) [] (c.args.low, 18446744073709551615) c.loop-built.invariant.can refl c.in_ok-push_whole.ensures in
    let parts : c.push_whole.new.xs ≡ c.in-Some.x ∷ c.next.new.self = sym (from_current_of_steps _ (Some c.in-Some.x) _ c.in-Some.ensures.steps) in
    (subst (λ (l : List (ℕ × ℕ)). CanIntersect l (gaps_of c.args.low []) (ranges_of c.push_whole.new.built)) parts taken.can).first_normal.1

pub loop-built-preserved : goal.loop-built-preserved
loop-built-preserved c =
    let x = c.in-Some.x in
    let rest = c.next.new.self in
    let gaps = gaps_of c.args.low [] in
    let taken = intersects_after_common_move _ _ c.loop-built.xs c.push_whole.new.xs gaps [] (c.args.low, 18446744073709551615) c.loop-built.invariant.can refl c.in_ok-push_whole.ensures in
    let parts : c.push_whole.new.xs ≡ x ∷ rest = sym (from_current_of_steps _ (Some x) _ c.in-Some.ensures.steps) in
    let m = subst (λ (l : List (ℕ × ℕ)). Intersects c.loop-built.xs l gaps gaps (ranges_of c.loop-built.built) (ranges_of c.push_whole.new.built)) parts taken in
    let within = m.can.first_normal.1 in
    let ends : x.1 ≤ 18446744073709551615 = omega (arith, within) in
    let end : x.1 ≡ min x.1 18446744073709551615 = omega (arith, ends) in
    meets_more _ _ _ _ _ _ _ _ _ c.loop-built.invariant (meets_more _ _ _ _ _ _ _ _ _ m
    (meets_first _ _ rest [] x (c.args.low, 18446744073709551615) c.max.result x.1 m.can ends c.max.ensures end c.in_ok-push_part.ensures))
