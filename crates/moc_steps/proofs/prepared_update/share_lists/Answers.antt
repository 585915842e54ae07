use Rattle.std.proofs.Common.{◌≡◌, ◌≢◌, ◌<◌, ◌≤◌, ◌+◌, ℕ, rules, List, Option, None, Some, length, get_or, set as set_at, cond, nat_lt, refl, sym, ap, subst, ◌∙◌, arith}
use Rattle.moc_lists.specs.RangeList.{NumberSet}
use Rattle.moc_parts.specs.Lemmas.{all_parts}
use Rattle.moc_steps.proofs.Basics.{get_set_same, get_set_other}
use Rattle.moc_steps.proofs.Loops.{entries_unchanged_from_start, entries_unchanged_next, entry_not_restored, entries_unchanged}
use Rattle.moc_steps.proofs.prepared_update.share_lists.Goals as goal
use Rattle.moc_steps.proofs.prepared_update.share_lists.Goals.{in-Some+in_ok-new+in-Some-1, in-Some+in_ok-new+in-None-1, in_default}

pub loop-part-init : goal.loop-part-init
loop-part-init c = (entries_unchanged_from_start c.args.prepared.now.lists c.no_lists-lists.result c.no_lists-lists.ensures, λ k l. refl, refl)

-- a list that was taken is inserted
put : (old xs ys : List (Option NumberSet)) (b from : ℕ) (new : NumberSet) → length xs ≡ 12 → b < 12 → from ≡ b → ys ≡ set_at xs from (Some new) → Some new ≡ get_or old b None
    → ((k : ℕ) → get_or xs k None ≡ cond (nat_lt k b) (get_or old k None) None) → (k : ℕ) → get_or ys k None ≡ cond (nat_lt k (b + 1)) (get_or old k None) None
put old xs ys b from new twelve low at is same h =
    let e : ys ≡ set_at xs b (Some new) = is ∙ ap (λ i. set_at xs i (Some new)) at in
    entries_unchanged_next old xs ys b h (ap (λ zs. get_or zs b None) e ∙ get_set_same xs b (Some new) None (subst (λ n. b < n) (sym twelve) low) ∙ same)
    (λ k d. ap (λ zs. get_or zs k None) e ∙ get_set_other xs b k (Some new) None d)

left : (old now next : List (Option NumberSet)) (b part : ℕ) → part ≡ b → next ≡ set_at now part None → ((k : ℕ) → b ≤ k → get_or now k None ≡ get_or old k None) → (k : ℕ) → b + 1 ≤ k → get_or next k None ≡ get_or old k None
left old now next b part at is h k l = let d : k ≢ b = λ e. absurd (omega (arith, e, l)) in
    ap (λ zs. get_or zs k None) (is ∙ ap (λ i. set_at now i None) at) ∙ get_set_other now b k None None d ∙ h k (omega arith)

pub loop-part-preserved : goal.loop-part-preserved
loop-part-preserved c =
    let old = c.args.prepared.now.lists in
    let b : ℕ = c.loop-part.part-index in
    let xs = c.loop-part.lists in
    let part = all_parts b c.part-item.result c.loop-part-test.true in
    let taken = c.take.ensures.taken ∙ ap (λ i. get_or c.loop-part.prepared.lists i None) part ∙ c.loop-part.invariant.1 b (omega arith) in (
      elim c.match-take.branch [
        | in-Some+in_ok-new+in-Some-1 w ↦
            let twelve : length c.loop-part.lists ≡ 12 = search rules in
            put old xs c.match-take.lists b w.index.result w.in_ok-new.field-0 twelve c.loop-part-test.true (w.index.ensures.value ∙ part) w.lists-is (ap (λ x. Some x) w.in_ok-new.ensures ∙ sym w.in-Some.is ∙ taken) c.loop-part.invariant.0
        | in-Some+in_ok-new+in-None-1 w ↦
            let twelve : length c.loop-part.lists ≡ 12 = search rules in
            put old xs c.match-take.lists b w.index.result w.in_ok-new.field-0 twelve c.loop-part-test.true (w.index.ensures.value ∙ part) w.lists-is (ap (λ x. Some x) w.in_ok-new.ensures ∙ sym w.in-Some.is ∙ taken) c.loop-part.invariant.0
        | in_default w ↦
            entries_unchanged_next old xs c.match-take.lists b c.loop-part.invariant.0 (ap (λ zs. get_or zs b None) w.lists-is ∙ entry_not_restored old xs b c.loop-part.invariant.0 ∙ sym w.in_default.is ∙ taken) (λ k d. ap (λ zs. get_or zs k None) w.lists-is)
      ],
      left old c.loop-part.prepared.lists c.take.new.self.lists b _ part c.take.ensures.left c.loop-part.invariant.1,
      c.take.ensures.replies ∙ c.loop-part.invariant.2,
    )

pub returns-in_err-new-clause-replies : goal.returns-in_err-new-clause-replies
returns-in_err-new-clause-replies c = c.take.ensures.replies ∙ c.loop-part.invariant.2

pub returns-clause-lists : goal.returns-clause-lists
returns-clause-lists c b l =
    let low = c.loop-part-test.false in
    entries_unchanged c.args.prepared.now.lists c.loop-part.lists c.loop-part.part-index c.loop-part.invariant.0 b (omega arith)

pub returns-clause-replies : goal.returns-clause-replies
returns-clause-replies c = c.loop-part.invariant.2
