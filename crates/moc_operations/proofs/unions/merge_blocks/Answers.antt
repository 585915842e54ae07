use Rattle.std.proofs.Common.{◌≤◌, List, ℕ, subst, sym}
use Rattle.moc_blocks.specs.Private.Blocks.{next_of}
use Rattle.moc_blocks.proofs.Building.{last_open_nonempty, open_within, open_after}
use Rattle.moc_operations.proofs.Turning.{ranges_after_pop, normal_after_pop, last_before_range, moves_both_by_merge, moves_both_by_equality}
use Rattle.moc_operations.proofs.unions.merge_blocks.Goals as goal

pub merge_ranges-requires-clause-opened : goal.merge_ranges-requires-clause-opened
merge_ranges-requires-clause-opened c = normal_after_pop c.args.built.now c.pop.new.self c.in-Some.last c.requires.built c.in-Some.ensures.0 c.in-Some.ensures.1

pub merge_ranges-requires-clause-first_later : goal.merge_ranges-requires-clause-first_later
merge_ranges-requires-clause-first_later c = subst (λ (l : List (ℕ × ℕ)). c.in-Some.last.0 ≤ next_of l) (sym c.split_block-first.ensures) (last_before_range c.args.built.now c.pop.new.self c.in-Some.last _ c.requires.can_first c.in-Some.ensures.1)

pub merge_ranges-requires-clause-second_later : goal.merge_ranges-requires-clause-second_later
merge_ranges-requires-clause-second_later c = subst (λ (l : List (ℕ × ℕ)). c.in-Some.last.0 ≤ next_of l) (sym c.split_block-second.ensures) (last_before_range c.args.built.now c.pop.new.self c.in-Some.last _ c.requires.can_second c.in-Some.ensures.1)

pub push-requires-clause-filled : goal.push-requires-clause-filled
push-requires-clause-filled c = last_open_nonempty _ c.in_ok-left.left.last c.in_ok-left.ensures.opened

pub push-requires-clause-within : goal.push-requires-clause-within
push-requires-clause-within c = open_within _ c.in_ok-left.left.last c.in_ok-left.ensures.opened

pub push-requires-clause-after : goal.push-requires-clause-after
push-requires-clause-after c = open_after _ c.in_ok-left.left.last c.in_ok-left.ensures.opened

pub returns : goal.returns
returns c = moves_both_by_equality _ _ _ _ _ _ _ _ _ _ c.split_block-first.ensures c.resume.ensures c.split_block-second.ensures c.resume-2.ensures
    (moves_both_by_merge c.args.built.now _ _ _ _ _ _ _ c.in_ok-push.ensures.last.0 c.in_ok-left.left.last c.in_ok-left.ensures (ranges_after_pop c.args.built.now c.pop.new.self c.in-Some.last c.in-Some.ensures.0 c.in-Some.ensures.1) c.in_ok-push.ensures.built c.in_ok-push.ensures.appended c.in_ok-push.ensures.last.1)
