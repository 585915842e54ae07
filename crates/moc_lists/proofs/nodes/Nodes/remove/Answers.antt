use Rattle.std.proofs.Common.{List, ℕ, ap, refl, ◌∙◌}
use Rattle.moc_blocks.specs.Blocks.{concat}
use Rattle.moc_blocks.specs.Private.Blocks.{width_of}
use Rattle.moc_blocks.proofs.Splicing.{on_true}
use Rattle.moc_blocks.proofs.Editing.{removed_less}
use Rattle.moc_lists.proofs.nodes.Nodes.remove.Goals as goal

pub overflow_sub-result : goal.overflow_sub-result
overflow_sub-result c =
    (removed_less c.args.from c.args.to c.self.inside.size c.self-2.inside.size _ (concat (concat c.args.self.now)) (concat (concat c.edit.new.self)) c.requires.stored.normal c.edit.ensures.stored.normal (on_true _ c.if-not-branch.false c.in_ok-edit.ensures.edited)
    (c.self.invariant.measured ∙ ap (λ (l : List (List (List (ℕ × ℕ)))). width_of (concat (concat l))) c.self.view_is) (c.self-2.invariant.measured ∙ ap (λ (l : List (List (List (ℕ × ℕ)))). width_of (concat (concat l))) c.self-2.view_is) refl).0

pub returns-clause-removed : goal.returns-clause-removed
returns-clause-removed c =
    (removed_less c.args.from c.args.to c.self.inside.size c.self-2.inside.size _ (concat (concat c.args.self.now)) (concat (concat c.edit.new.self)) c.requires.stored.normal c.edit.ensures.stored.normal (on_true _ c.if-not-branch.false c.in_ok-edit.ensures.edited)
    (c.self.invariant.measured ∙ ap (λ (l : List (List (List (ℕ × ℕ)))). width_of (concat (concat l))) c.self.view_is) (c.self-2.invariant.measured ∙ ap (λ (l : List (List (List (ℕ × ℕ)))). width_of (concat (concat l))) c.self-2.view_is) refl).1
