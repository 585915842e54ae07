use Rattle.std.proofs.Common.{◌≡◌, ◌<◌, ℕ, List, [], ◌∷◌, Option, None, Some, length, map, get_or, cond, nat_lt, refl, sym, ap, subst, ◌∙◌, arith}
use Rattle.std.specs.Borrow.{Bor}
use Rattle.std.specs.Option.{option_copied}
use Rattle.moc_lists.specs.RangeList.{NumberSet}
use Rattle.moc_steps.proofs.Basics.{get_set_same, get_set_other, length_set}
use Rattle.moc_steps.proofs.TakenContents.{same_default}
use Rattle.moc_steps.proofs.Loops.{entries_unchanged_from_start, entries_unchanged_next, entry_not_restored, twelve_nones, copied-at, copied_all}
use Rattle.moc_steps.proofs.prepared_update.lists_of.Goals as goal
use Rattle.moc_steps.proofs.prepared_update.lists_of.Goals.{in-Some, in_default}

pub loop-b-init : goal.loop-b-init
loop-b-init c = (refl, entries_unchanged_from_start c.args.taken_lists.now (None ∷ None ∷ None ∷ None ∷ None ∷ None ∷ None ∷ None ∷ None ∷ None ∷ None ∷ None ∷ []) twelve_nones)

pub loop-b-preserved : goal.loop-b-preserved
loop-b-preserved c =
    let taken_lists : List (Option NumberSet) = c.args.taken_lists.now in
    let xs : List (Option (Bor NumberSet)) = c.loop-b.lists in
    let ys : List (Option (Bor NumberSet)) = c.match-share.lists in
    let b : ℕ = c.loop-b.b in
    elim c.match-share.branch [
      | in-Some w ↦ (
        ap length w.lists-is ∙ length_set xs b (Some w.list.result) ∙ c.loop-b.invariant.0,
        entries_unchanged_next taken_lists (map option_copied xs) (map option_copied ys) b c.loop-b.invariant.1
            (copied-at ys b ∙ ap option_copied (ap (λ zs. get_or zs b None) w.lists-is ∙ get_set_same xs b (Some w.list.result) None (subst (λ n. b < n) (sym c.loop-b.invariant.0) c.loop-b-test.true))
            ∙ ap (λ x. Some x) w.list.ensures ∙ sym w.in-Some.is ∙ same_default taken_lists b c.index-taken_lists-b.result None (subst (λ n. b < n) (sym c.type_inv.taken_lists) c.loop-b-test.true))
            (λ k d. copied-at ys k ∙ ap option_copied (ap (λ zs. get_or zs k None) w.lists-is ∙ get_set_other xs b k (Some w.list.result) None d) ∙ sym (copied-at xs k)),
      )
      | in_default w ↦ (
        ap length w.lists-is ∙ c.loop-b.invariant.0,
        entries_unchanged_next taken_lists (map option_copied xs) (map option_copied ys) b c.loop-b.invariant.1
            (ap (λ zs. get_or (map option_copied zs) b None) w.lists-is ∙ entry_not_restored taken_lists (map option_copied xs) b c.loop-b.invariant.1 ∙ sym w.in_default.is ∙ same_default taken_lists b c.index-taken_lists-b.result None (subst (λ n. b < n) (sym c.type_inv.taken_lists) c.loop-b-test.true))
            (λ k d. ap (λ zs. get_or (map option_copied zs) k None) w.lists-is),
      )
    ]

pub returns : goal.returns
returns c =
    let xs : List (Option (Bor NumberSet)) = c.loop-b.lists in
    let at : c.loop-b.b ≡ 12 = (let low = c.loop-b-test.false in let high = c.loop-b.auto.b-end in omega arith) in
    copied_all xs c.args.taken_lists.now c.loop-b.invariant.0 c.type_inv.taken_lists (subst (λ n. (k : ℕ) → get_or (map option_copied xs) k None ≡ cond (nat_lt k n) (get_or c.args.taken_lists.now k None) None) at c.loop-b.invariant.1)
