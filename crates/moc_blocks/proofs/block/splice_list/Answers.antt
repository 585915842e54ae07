use Rattle.std.proofs.Common.{◌∙◌, ◌+◌, ◌<◌, ◌++◌, ◌∷◌, take, drop, length, List, ℕ, ap, arith, refl, subst, sym}
use Rattle.std.specs.Prelude.{slice_set}
use Rattle.moc_blocks.specs.Private.Edits.{after_splice, FitsSplice}
use Rattle.moc_blocks.specs.declared.edits.splice.Splice.{Splice}
use Rattle.moc_blocks.proofs.Editing.{set_inserted, set_split}
use Rattle.moc_blocks.proofs.Splicing.{set_before}
use Rattle.moc_blocks.proofs.block.splice_list.Goals as goal

pub returns-in-Replace-clause-put : goal.returns-in-Replace-clause-put
returns-in-Replace-clause-put c =
    let rs = c.args.ranges.now.items in
    set_split rs c.in-Replace.place c.in-Replace.range (subst (λ (s : Splice). FitsSplice s (length rs)) c.in-Replace.is c.requires) ∙ ap (λ (s : Splice). after_splice s rs) (sym c.in-Replace.is)

pub returns-in_ok-insert_into-in-Split-clause-put : goal.returns-in_ok-insert_into-in-Split-clause-put
returns-in_ok-insert_into-in-Split-clause-put c =
    let rs = c.args.ranges.now.items in
    set_inserted rs _ c.in-Split.place c.in-Split.first c.in-Split.second (subst (λ (s : Splice). FitsSplice s (length rs)) c.in-Split.is c.requires) c.in_ok-insert_into-in-Split.ensures.put
    ∙ ap (λ (s : Splice). after_splice s rs) (sym c.in-Split.is)

pub returns-in-Join-clause-put : goal.returns-in-Join-clause-put
returns-in-Join-clause-put c =
    let rs = c.args.ranges.now.items in
    let place = c.in-Join.place in
    let fits : place + 1 < length rs = subst (λ (s : Splice). FitsSplice s (length rs)) c.in-Join.is c.requires in
    ap (λ (l : List (ℕ × ℕ)). slice_set l place c.in-Join.range) c.remove-in-Join.ensures.by_index.2
    ∙ set_before rs (drop (place + 1 + 1) rs) place (place + 1) c.in-Join.range (omega arith) refl
    ∙ ap (λ n. take place rs ++ c.in-Join.range ∷ drop n rs) (omega arith)
    ∙ ap (λ (s : Splice). after_splice s rs) (sym c.in-Join.is)
