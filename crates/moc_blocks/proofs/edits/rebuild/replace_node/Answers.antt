use Rattle.std.proofs.Common.{List, ℕ, refl, subst, sym}
use Rattle.moc_blocks.specs.RangeList.{IsNormal}
use Rattle.moc_blocks.specs.Blocks.{concat, AreBlocks, max_node_blocks}
use Rattle.moc_blocks.specs.Private.Built.{first_length, last_length}
use Rattle.moc_blocks.specs.Private.Edits.{IsSplit}
use Rattle.moc_blocks.proofs.Blocking.{IsNormal-prefix, IsNormal-suffix, concat-append}
use Rattle.moc_blocks.proofs.Filling.{fill_rule_suffix}
use Rattle.moc_blocks.proofs.Editing.{some_of, fill_rule_prefix}
use Rattle.moc_blocks.proofs.edits.rebuild.replace_node.Goals as goal

pub new-requires-clause-normal : goal.new-requires-clause-normal
new-requires-clause-normal c =
    let cut = some_of _ _ _ c.in-Some.is c.in_ok-first.ensures in
    let first = c.in-Some.field-0.first.items in
    let second = c.in-Some.field-0.second.items in
    IsNormal-prefix (concat first) (concat second) (subst IsNormal (concat-append first second) (subst (λ (l : List (List (ℕ × ℕ))). IsNormal (concat l)) (sym cut.parts) c.requires.normal))

pub new-requires-clause-sized : goal.new-requires-clause-sized
new-requires-clause-sized c =
    let cut = some_of _ _ _ c.in-Some.is c.in_ok-first.ensures in
    fill_rule_prefix 128 c.in-Some.field-0.first.items c.in-Some.field-0.second.items (subst AreBlocks (sym cut.parts) c.requires.sized)

pub node_of-requires-clause-normal : goal.node_of-requires-clause-normal
node_of-requires-clause-normal c =
    let cut = some_of _ _ _ c.in-Some.is c.in_ok-first.ensures in
    let first = c.in-Some.field-0.first.items in
    let second = c.in-Some.field-0.second.items in
    IsNormal-suffix (concat first) (concat second) (subst IsNormal (concat-append first second) (subst (λ (l : List (List (ℕ × ℕ))). IsNormal (concat l)) (sym cut.parts) c.requires.normal))

pub node_of-requires-clause-sized : goal.node_of-requires-clause-sized
node_of-requires-clause-sized c =
    let cut = some_of _ _ _ c.in-Some.is c.in_ok-first.ensures in
    fill_rule_suffix 128 c.in-Some.field-0.first.items c.in-Some.field-0.second.items (subst AreBlocks (sym cut.parts) c.requires.sized)

pub returns : goal.returns
returns c =
    let cut = some_of _ _ _ c.in-Some.is c.in_ok-first.ensures in
    let blocks = c.args.blocks.items in
    let first = c.in-Some.field-0.first.items in
    let second = c.in-Some.field-0.second.items in
    let front = last_length c.args.place.now.before.now in
    let back = first_length c.args.place.now.after.now in
    record {
      at = refl;
      rest = second;
      split = subst (λ (l : List (List (ℕ × ℕ))). IsSplit max_node_blocks front back blocks l second) (sym c.in_ok-first-2.ensures)
          (subst (λ n. IsSplit max_node_blocks front n blocks first second) c.blocks_in_first-back.ensures
          (subst (λ n. IsSplit max_node_blocks n c.blocks_in_first-back.result blocks first second) c.blocks_in_last-front.ensures.value cut));
      last = c.in_ok-second.ensures;
    }
