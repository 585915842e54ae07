use Rattle.std.proofs.Common.{◌≡◌, ◌<◌, arith, ap, sym, ◌∙◌, [], length, List, ℕ, subst}
use Rattle.std.proofs.lemmas.List.{get_or_read}
use Rattle.std.specs.Arc.{arc_value}
use Rattle.moc_blocks.specs.Private.Blocks.{IsNode, width_of, first_of, last_of}
use Rattle.moc_blocks.specs.Blocks.{concat}
use Rattle.moc_blocks.proofs.Blocking.{first_of-concat, last_of-concat, length_last}
use Rattle.moc_blocks.proofs.node.Node.new.Goals as goal

pub invariant_of-result : goal.invariant_of-result
invariant_of-result c =
    let bs = c.args.blocks.items in
    let none : List (ℕ × ℕ) = [] in
    let same : (arc_value c.in_ok-blocks.blocks).items ≡ bs = ap (λ v. v.items) c.in_ok-blocks.ensures.ok in
    let first = get_or_read bs _ _ (omega arith) c.index.ensures none in
    let last = get_or_read bs _ _ (omega arith) c.index-2.ensures none in
    let fill_rule_prefix = subst (λ (b : List (ℕ × ℕ)). 0 < length b) first c.from-from.ensures.some in
    let fill_rule_last = subst (λ (b : List (ℕ × ℕ)). 0 < length b) last c.to-to.ensures.some in
    subst (λ (l : List (List (ℕ × ℕ))). IsNode c.from-from.result c.to-to.result c.width_of_blocks-size.result c.count_in_blocks-count.result l) (sym same) (record {
      sized = c.requires.sized;
      fits = c.requires.fits;
      counted = c.count_in_blocks-count.ensures ∙ ap (λ (l : List (List (ℕ × ℕ))). length (concat l)) c.deref-2.ensures.value;
      summary = record {
        some = length_last bs none 0 (omega (arith, c.requires.some)) fill_rule_prefix;
        first = c.from-from.ensures.value ∙ ap first_of first ∙ sym (first_of-concat bs none (omega (arith, c.requires.some)) fill_rule_prefix);
        last = c.to-to.ensures.value ∙ ap last_of last ∙ sym (last_of-concat bs none _ (omega arith) fill_rule_last);
        measured = c.width_of_blocks-size.ensures ∙ ap (λ (l : List (List (ℕ × ℕ))). width_of (concat l)) c.deref.ensures.value;
      };
    })
