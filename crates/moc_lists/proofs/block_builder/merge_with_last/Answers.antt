use Rattle.std.proofs.Common.{◌≡◌, ◌++◌, ◌∷◌, [], List, ℕ, arith, ap, subst, ◌∙◌, append_assoc}
use Rattle.moc_blocks.specs.Blocks.{concat}
use Rattle.moc_blocks.specs.Private.Built.{last_length}
use Rattle.moc_blocks.specs.RangeList.{IsNormal}
use Rattle.moc_blocks.proofs.Blocking.{IsNormal-suffix, concat-last}
use Rattle.moc_blocks.proofs.Filling.{last_length-append}
use Rattle.moc_lists.proofs.block_builder.merge_with_last.Goals as goal

pub followed_by-requires-clause-normal : goal.followed_by-requires-clause-normal
followed_by-requires-clause-normal c =
    let bs = c.pop.new.self.items in
    let parts : concat c.args.blocks.now.items ++ c.args.block ≡ concat bs ++ (c.in-Some.last ++ c.args.block) =
    ap (λ (l : List (ℕ × ℕ)). l ++ c.args.block) (ap concat c.in-Some.ensures.items ∙ concat-last bs c.in-Some.last) ∙ append_assoc (concat bs) c.in-Some.last c.args.block in
    IsNormal-suffix (concat bs) (c.in-Some.last ++ c.args.block) (subst IsNormal parts c.requires.normal)

pub followed_by-requires-clause-capacity : goal.followed_by-requires-clause-capacity
followed_by-requires-clause-capacity c =
    let len = ap last_length c.in-Some.ensures.items ∙ last_length-append c.pop.new.self.items (c.in-Some.last ∷ []) (omega arith) in
    omega (arith, len, c.requires.capacity)
