use Rattle.std.proofs.Common.{◌≤◌, ◌||◌, ◌++◌, ◌∷◌, [], length, ap, sym, subst, ◌∙◌, refl, arith}
use Rattle.moc_blocks.specs.Lemmas.Members.{in_range, in_ranges}
use Rattle.moc_blocks.specs.Private.Blocks.{last_of}
use Rattle.moc_blocks.specs.Private.Built.{GrowingList, growing_list, ranges_of, CanMerge, BeginsBy}
use Rattle.moc_blocks.proofs.Merging.{EndsBelow-append}
use Rattle.moc_blocks.proofs.Building.{longer_same, builder_state_after_extension, longer_can, can_merge_after_push}
use Rattle.moc_blocks.proofs.Basics.{from_two_ok}
use Rattle.moc_lists.proofs.builder.ListBuilder.push_or_merge.Goals as goal

pub push-requires-clause-after : goal.push-requires-clause-after
push-requires-clause-after c = EndsBelow-append c.args.from c.args.self.now.closed c.args.self.now.loose c.requires.can.before c.if-ends_before.ensures.below

pub returns-then-ends_before-clause-can : goal.returns-then-ends_before-clause-can
returns-then-ends_before-clause-can c = from_two_ok c.push.result c.push.ensures.last c.push.ensures.built (λ last built. can_merge_after_push c.push.new.self last.0 (c.args.from, c.args.to) built last.1)

pub invariant_of-self : goal.invariant_of-self
invariant_of-self c = builder_state_after_extension _ _ c.self.inside.ranges.items _ c.pop.new.self.items c.in-Some.last c.args.to c.self.invariant c.in-Some.ensures.items (c.in_ok-push.ensures.items ∙ ap (λ t. c.pop.new.self.items ++ (c.in-Some.last.0, t) ∷ []) c.max.ensures) c.requires.within

pub returns-in_ok-push-clause-built : goal.returns-in_ok-push-clause-built
returns-in_ok-push-clause-built c = (builder_state_after_extension _ _ c.self.inside.ranges.items _ c.pop.new.self.items c.in-Some.last c.args.to c.self.invariant c.in-Some.ensures.items (c.in_ok-push.ensures.items ∙ ap (λ t. c.pop.new.self.items ++ (c.in-Some.last.0, t) ∷ []) c.max.ensures) c.requires.within).normal

pub returns-in_ok-push-clause-same : goal.returns-in_ok-push-clause-same
returns-in_ok-push-clause-same c = λ q.
    longer_same _ c.pop.new.self.items c.self.inside.ranges.items _ c.in-Some.last c.args.from c.args.to c.self.invariant.normal c.in-Some.ensures.items (c.in_ok-push.ensures.items ∙ ap (λ t. c.pop.new.self.items ++ (c.in-Some.last.0, t) ∷ []) c.max.ensures)
    (subst (λ (g : GrowingList). BeginsBy c.args.from g.loose) (sym c.self.view_is) c.requires.can.begun)
    (subst (λ (g : GrowingList). c.args.from ≤ last_of g.loose) (sym c.self.view_is) c.if-ends_before.ensures.reached) c.requires.filled q
    ∙ ap (λ (g : GrowingList). in_ranges (ranges_of g) q || in_range (c.args.from, c.args.to) q) c.self.view_is

pub returns-in_ok-push-clause-can : goal.returns-in_ok-push-clause-can
returns-in_ok-push-clause-can c =
    longer_can (growing_list c.self.inside.blocks.nodes.items c.self.inside.blocks.blocks.items c.self.inside.ranges.items) _ c.pop.new.self.items c.in-Some.last _ c.args.from
    (subst (λ (g : GrowingList). CanMerge g c.args.from) (sym c.self.view_is) c.requires.can) refl c.in-Some.ensures.items c.in_ok-push.ensures.items

pub returns-in_default-clause-same : goal.returns-in_default-clause-same
returns-in_default-clause-same c =
    absurd (omega (arith, ap (λ (g : GrowingList). length g.loose) c.self.view_is, c.if-ends_before.ensures.some, c.self.inside.ranges.ok, c.in_default.ensures.cases.0))
