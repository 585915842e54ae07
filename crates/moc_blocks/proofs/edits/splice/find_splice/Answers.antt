use Rattle.std.proofs.Common.{◌≡◌, List, ℕ, length, subst, sym, ap, ◌∙◌, arith}
use Rattle.moc_blocks.specs.RangeList.{IsNormal}
use Rattle.moc_blocks.specs.Blocks.{concat}
use Rattle.moc_blocks.specs.Private.Built.{EndsBelow}
use Rattle.moc_blocks.specs.Private.Edits.{after_splice, spliced_length, KeepsFillRule}
use Rattle.moc_blocks.proofs.Passing.{all_ranges-nodes, all_ranges-blocks}
use Rattle.moc_blocks.proofs.Editing.{concat_around_node, node_normal, run_normal}
use Rattle.moc_blocks.proofs.Splicing.{block_splice, length_after}
use Rattle.moc_blocks.proofs.edits.splice.find_splice.Goals as goal

pub find_run-requires : goal.find_run-requires
find_run-requires c = subst IsNormal (sym (all_ranges-nodes c.args.nodes.now)) c.requires.stored.normal

pub find_run-requires-2 : goal.find_run-requires-2
find_run-requires-2 c =
    let place = c.in_ok-place.place in
    let whole = subst (λ (l : List (List (ℕ × ℕ))). IsNormal (concat l)) (concat_around_node c.args.nodes.now place.before.now place.after.now place.run.now c.in_ok-place.ensures.parts) c.requires.stored.normal in
    subst IsNormal (sym (all_ranges-blocks c.blocks-2.result.now)) (node_normal (concat place.before.now) c.blocks-2.result.now place.run.now (concat place.after.now) c.blocks-2.ensures.value whole)

pub splice_of-requires-clause-normal : goal.splice_of-requires-clause-normal
splice_of-requires-clause-normal c =
    let place = c.in_ok-place.place in
    let own = c.in_ok-own.own in
    let whole = subst (λ (l : List (List (ℕ × ℕ))). IsNormal (concat l)) (concat_around_node c.args.nodes.now place.before.now place.after.now place.run.now c.in_ok-place.ensures.parts) c.requires.stored.normal in
    run_normal (concat place.before.now) c.blocks-2.result.now place.run.now own.before.now own.after.now (concat place.after.now) own.run.now c.blocks-2.ensures.value c.in_ok-own.ensures.parts whole

pub returns : goal.returns
returns c =
    let place = c.in_ok-place.place in
    let own = c.in_ok-own.own in
    let edits = c.in_ok-splice.ensures in
    let run = own.run.now in
    let front = c.ranges_in_last-before.result in
    let back = c.ranges_in_next-after.result in
    let many : c.length_after-length.result ≡ length (after_splice c.in_ok-splice.splice run) =
    c.length_after-length.ensures ∙ ap (spliced_length c.in_ok-splice.splice) (ap length c.ranges-2.ensures.value) ∙ sym (length_after c.in_ok-splice.splice run edits.fits) in
    block_splice c.args.edit c.args.from c.args.to front back c.args.nodes.now place.before.now place.after.now place.run.now own.before.now own.after.now run c.in_ok-splice.splice
    c.requires.stored c.in_ok-place.ensures.parts
    (subst (λ (l : List (ℕ × ℕ)). EndsBelow c.args.from l) (all_ranges-nodes place.before.now) c.in_ok-place.ensures.below)
    (sym c.blocks-2.ensures.value ∙ c.in_ok-own.ensures.parts)
    (subst (λ (l : List (ℕ × ℕ)). EndsBelow c.args.from l) (all_ranges-blocks own.before.now) c.in_ok-own.ensures.below)
    (omega (arith, c.if-start_of_next-to.false, c.start_of_next.ensures))
    edits c.ranges_in_last-before.ensures c.ranges_in_next-after.ensures
    (subst (λ n. KeepsFillRule front n back) many c.if-not-keeps_fill_rule.ensures)
