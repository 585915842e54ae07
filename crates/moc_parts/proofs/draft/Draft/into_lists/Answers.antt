use Rattle.std.proofs.Common.{◌≡◌, ◌+◌, ℕ, List, true, Option, None, Some, is_some, get_or, not, length, ◌<◌, subst, sym, ap, ◌∙◌, refl, arith}
use Rattle.std.specs.Prelude.{set as set_at}
use Rattle.std.specs.Borrow.{Bor}
use Rattle.std.specs.Option.{option_copied}
use Rattle.std.proofs.lemmas.List.{length-map, get_or_default}
use Rattle.moc_lists.specs.RangeList.{NumberSet}
use Rattle.moc_ranges.specs.Operations.{part_of}
use Rattle.moc_parts.specs.Lemmas.{all_parts}
use Rattle.moc_parts.specs.Private.Drafts.{sets_of}
use Rattle.moc_parts.specs.Prepared.{is_given, part_if}
use Rattle.moc_parts.proofs.Drafting.{AreDoneBelow, previous_twelve, previous_part, single_part, some_copied, list_replaced, list_is_missing}
use Rattle.moc_parts.proofs.draft.Draft.into_lists.Goals as goal
use Rattle.moc_parts.proofs.draft.Draft.into_lists.Goals.{
  then-is_none,
  else-is_none+then-is_none-2+in_ok-try_copy+in_ok-put,
  else-is_none+else-is_none-2,
}

pub loop-part-init : goal.loop-part-init
loop-part-init c = (c.self.invariant.1, λ k lt. absurd (omega arith), λ k le. refl)

pub loop-part-preserved : goal.loop-part-preserved
loop-part-preserved c =
    let b : ℕ = c.loop-part.part-index in
    let given = c.args.given.now in
    let before : List (Bor NumberSet) = c.self.inside.before in
    let new_lists : List (Option NumberSet) = c.self.inside.new_lists in
    let lists : List (Option NumberSet) = c.loop-part.lists in
    let set_now : NumberSet = c.args.self.set in
    let is : ℕ → Option NumberSet = λ k. part_if (is_given given k) set_now k in
    let part = all_parts b c.part-item.result c.loop-part-test.true in
    let at : c.index-b.result ≡ b = c.index-b.ensures.value ∙ part in
    let given_is : is_given given b ≡ not c.is_none.result =
    ap (is_given given) (sym at)
    ∙ ap is_some (get_or_default given c.index-b.result None c.index-given-b.result (subst (λ n. c.index-b.result < n) (sym c.told-given) (subst (λ n. n < 12) (sym at) c.loop-part-test.true)))
    ∙ c.is_none.ensures in
    let inv = c.loop-part.invariant in
    let same = inv.2 b (omega arith) in
    let next : List (Option NumberSet) = c.if-is_none.lists in
    let left_out : next ≡ set_at lists b None → c.is_none.result ≡ true → AreDoneBelow new_lists next is (b + 1) =
    λ put none. list_replaced new_lists lists next is b None c.loop-part-test.true put (sym (ap (λ t. part_if t set_now b) (given_is ∙ ap not none))) inv in
    elim c.if-is_none.branch [
      | then-is_none w ↦ left_out (w.lists-is ∙ w.clear.ensures ∙ ap (λ n. set_at lists n None) part) w.if-is_none.true
      | else-is_none+then-is_none-2+in_ok-try_copy+in_ok-put w ↦
          let item : Bor NumberSet = w.index-before-b.result in
          let list : Bor NumberSet = get_or before c.index-b.result item in
          let many : length before ≡ 12 = sym (length-map before (λ l. l.now)) ∙ previous_twelve (sets_of before) new_lists c.self.invariant.0 in
          let copied : w.in_ok-try_copy.field-0 ≡ part_of set_now b =
          w.in_ok-try_copy.ensures.same
          ∙ previous_part before new_lists b (option_copied w.get.result) list c.self.invariant.0 c.self.invariant.1 c.loop-part-test.true (w.get.ensures ∙ ap (λ n. get_or lists n None) part ∙ same)
          (some_copied w.get.result ∙ w.is_none-else-is_none.ensures ∙ ap not w.if-is_none-2.true)
          (ap (λ n. get_or before n item) at ∙ get_or_default before b item list (subst (λ n. b < n) (sym many) c.loop-part-test.true))
          ∙ ap (λ d. part_of d.set b) c.self.view_is in
          list_replaced new_lists lists next is b (Some w.in_ok-try_copy.field-0) c.loop-part-test.true (w.lists-is ∙ w.in_ok-put.ensures.put ∙ ap (λ n. set_at lists n (Some w.in_ok-try_copy.field-0)) part)
          (ap Some copied ∙ sym (ap (λ t. part_if t set_now b) (given_is ∙ ap not w.if-is_none.false))) inv
      | else-is_none+else-is_none-2 w ↦ list_is_missing new_lists lists next is b w.lists-is
          (ap (λ n. get_or lists n None) (sym part) ∙ sym w.get.ensures
          ∙ single_part (sets_of before) new_lists b (option_copied w.get.result) c.self.invariant.0 c.self.invariant.1 c.loop-part-test.true (w.get.ensures ∙ ap (λ n. get_or lists n None) part ∙ same)
          (some_copied w.get.result ∙ w.is_none-else-is_none.ensures ∙ ap not w.if-is_none-2.false)
          ∙ ap (λ d. Some (part_of d.set b)) c.self.view_is ∙ sym (ap (λ t. part_if t set_now b) (given_is ∙ ap not w.if-is_none.false))) inv
    ]

pub returns : goal.returns
returns c = λ b l. let low = c.loop-part-test.false in c.loop-part.invariant.1 b (omega arith)
