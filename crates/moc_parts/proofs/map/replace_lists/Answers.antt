use Rattle.std.proofs.Common.{◌≡◌, ◌<◌, ℕ, suc, ◌+◌, List, Option, None, get_or, length, take, refl, sym, ap, subst, ◌∙◌, arith}
use Rattle.std.specs.Prelude.{set as set_at}
use Rattle.std.proofs.lemmas.List.{get_or-set_other, take_all}
use Rattle.moc_lists.specs.RangeList.{NumberSet}
use Rattle.moc_parts.specs.Lemmas.{all_parts}
use Rattle.moc_parts.specs.Private.Drafts.{current_lists}
use Rattle.moc_parts.proofs.Drafting.{current_lists-no, current_lists-put, current_lists-pass}
use Rattle.moc_parts.proofs.map.replace_lists.Goals as goal
use Rattle.moc_parts.proofs.map.replace_lists.Goals.{in-Some, in_default}

pub loop-part-init : goal.loop-part-init
loop-part-init c = (sym (current_lists-no c.args.parts.now), λ k le. refl)

pub loop-part-preserved : goal.loop-part-preserved
loop-part-preserved c =
    let before : List NumberSet = c.args.parts.now in
    let new_lists : List (Option NumberSet) = c.args.new_lists in
    let b : ℕ = c.loop-part.part-index in
    let within : b < length before = subst (λ n. b < n) (sym c.requires.twelve) c.loop-part-test.true in
    let within_made : b < length new_lists = subst (λ n. b < n) (sym c.requires.places) c.loop-part-test.true in
    let part = all_parts b c.part-item.result c.loop-part-test.true in
    let is : get_or new_lists b None ≡ c.take.result =
    sym (c.take.ensures.taken ∙ ap (λ n. get_or c.loop-part.new_lists n None) part ∙ c.loop-part.invariant.1 b (omega arith)) in
    let next : suc b ≡ b + 1 = omega arith in
    let parts : c.match-take.parts ≡ current_lists before (take (b + 1) new_lists) = elim c.match-take.branch [
      | in-Some w ↦ w.parts-is ∙ (λ i. set_at (c.loop-part.invariant.0 i) ((w.index.ensures.value ∙ part) i) w.in-Some.list) ∙ sym (current_lists-put before new_lists b w.in-Some.list within within_made (is ∙ w.in-Some.is)) ∙ ap (λ n. current_lists before (take n new_lists)) next
      | in_default w ↦ w.parts-is ∙ c.loop-part.invariant.0 ∙ sym (current_lists-pass before new_lists b within within_made (is ∙ w.in_default.is)) ∙ ap (λ n. current_lists before (take n new_lists)) next
    ] in (
      parts,
      λ k le. ap (λ lists. get_or lists k None) (c.take.ensures.left ∙ ap (λ n. set_at c.loop-part.new_lists n None) part) ∙ get_or-set_other c.loop-part.new_lists b k None None (λ e. omega arith) ∙ c.loop-part.invariant.1 k (omega arith),
    )

pub returns : goal.returns
returns c =
    let low = c.loop-part-test.false in
    let many = c.requires.places in
    c.loop-part.invariant.0 ∙ ap (current_lists c.args.parts.now) (take_all c.loop-part.part-index c.args.new_lists (omega arith))
