use Rattle.std.proofs.Common.{◌≡◌, ◌<◌, ℕ, List, [], ◌∷◌, Option, None, Some, length, map, get_or, cond, nat_lt, refl, sym, ap, subst, ◌∙◌, arith}
use Rattle.std.specs.Prelude.{set as set_at}
use Rattle.std.specs.Borrow.{Bor}
use Rattle.std.specs.Option.{option_copied}
use Rattle.std.proofs.lemmas.List.{get_or-map}
use Rattle.moc_lists.specs.RangeList.{NumberSet}
use Rattle.moc_steps.specs.Private.ClientState.{contents_of}
use Rattle.moc_steps.proofs.Basics.{get_set_same, get_set_other, length_set, length-map}
use Rattle.moc_steps.proofs.Loops.{entries_unchanged_from_start, entries_unchanged_next, twelve_nones, copied-at, copied_all, previous_copied}
use Rattle.moc_steps.proofs.world.lists.Goals as goal

contents_of_some : (sets : List NumberSet) → contents_of (map (λ s. Some s) sets) ≡ sets
contents_of_some [] = refl
contents_of_some (s ∷ sets) = ap (λ xs. s ∷ xs) (contents_of_some sets)

pub loop-b-init : goal.loop-b-init
loop-b-init c = (refl, entries_unchanged_from_start (map (λ s. Some s) c.args.parts.now) (None ∷ None ∷ None ∷ None ∷ None ∷ None ∷ None ∷ None ∷ None ∷ None ∷ None ∷ None ∷ []) twelve_nones)

pub loop-b-preserved : goal.loop-b-preserved
loop-b-preserved c =
    let parts : List NumberSet = c.args.parts.now in
    let some : NumberSet → Option NumberSet = λ s. Some s in
    let xs : List (Option (Bor NumberSet)) = c.loop-b.lists in
    let b : ℕ = c.loop-b.b in
    let ys : List (Option (Bor NumberSet)) = set_at xs b (Some c.list.result) in
    let low : b < 12 = subst (λ n. b < n) c.requires c.loop-b-test.true in (
      length_set xs b (Some c.list.result) ∙ c.loop-b.invariant.0,
      entries_unchanged_next (map some parts) (map option_copied xs) (map option_copied ys) b c.loop-b.invariant.1
          (copied-at ys b ∙ ap option_copied (get_set_same xs b (Some c.list.result) None (subst (λ n. b < n) (sym c.loop-b.invariant.0) low))
          ∙ ap some (c.list.ensures ∙ c.index-parts-b.is) ∙ sym (get_or-map some parts b c.index-parts-b.result None c.loop-b-test.true))
          (λ k d. copied-at ys k ∙ ap option_copied (get_set_other xs b k (Some c.list.result) None d) ∙ sym (copied-at xs k)),
    )

pub returns : goal.returns
returns c =
    let xs : List (Option (Bor NumberSet)) = c.loop-b.lists in
    let taken_lists : List (Option NumberSet) = map (λ s. Some s) c.args.parts.now in
    let end : c.loop-b.b ≡ length c.args.parts.now = (let low = c.loop-b-test.false in let high = c.loop-b.auto.b-end in omega arith) in
    let at : c.loop-b.b ≡ 12 = end ∙ c.requires in
    previous_copied xs
    ∙ ap contents_of (copied_all xs taken_lists c.loop-b.invariant.0 (length-map (λ s. Some s) c.args.parts.now ∙ c.requires)
    (subst (λ n. (k : ℕ) → get_or (map option_copied xs) k None ≡ cond (nat_lt k n) (get_or taken_lists k None) None) at c.loop-b.invariant.1))
    ∙ contents_of_some c.args.parts.now
