use Rattle.std.proofs.Common.{◌≡◌, length, sym, ap, subst, ◌∙◌}
use Rattle.moc_lists.specs.RangeList.{NumberSet}
use Rattle.std.specs.Prelude.{List}
use Rattle.moc_parts.specs.Private.Drafts.{current_lists, sets_of, AreParts}
use Rattle.moc_parts.specs.Parts.{union_of}
use Rattle.moc_parts.proofs.Drafting.{current_lists-none}
use Rattle.moc_parts.proofs.draft.Draft.without_changes.Goals as goal

pub invariant_of-result : goal.invariant_of-result
invariant_of-result c =
    let before : List NumberSet = sets_of c.args.before in
    let as_found : current_lists before c.new.result ≡ before = ap (current_lists before) c.new.ensures ∙ current_lists-none before 12 in
    (subst AreParts (sym as_found) c.requires, ap length c.new.ensures)

pub returns : goal.returns
returns c =
    let before : List NumberSet = sets_of c.args.before in
    let as_found : current_lists before c.new.result ≡ before = ap (current_lists before) c.new.ensures ∙ current_lists-none before 12 in
    λ i. record { before = before; set = union_of (as_found i) }
