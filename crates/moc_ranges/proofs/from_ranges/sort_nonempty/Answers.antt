use Rattle.std.proofs.Common.{◌≡◌, true, ℕ, ◌≤◌, ◌<◌, List, take, ◌||◌, get_or, ap, sym, subst, ◌∙◌, rules, All, arith}
use Rattle.std.proofs.lemmas.Bool.{leb-true, false≢true}
use Rattle.std.proofs.lemmas.List.{take_more, take_all}
use Rattle.std.proofs.lemmas.List.Elements.{All-push}
use Rattle.std.proofs.lemmas.List.Sorted.{IsNonDecreasingBy-from_sort_by_key, All-permutation}
use Rattle.moc_blocks.specs.RangeList.{pixel_count}
use Rattle.moc_blocks.specs.Lemmas.Members.{in_ranges, in_range}
use Rattle.moc_ranges.proofs.Sorting.{IsSortedFrom-sorted, in_ranges-permutation, in_ranges-push, pair_within_sky, in_ranges_without_empty}
use Rattle.moc_ranges.proofs.Sorting.{sorted_push, starts_push}
use Rattle.moc_ranges.proofs.from_ranges.sort_nonempty.Goals as goal
use Rattle.moc_ranges.proofs.from_ranges.sort_nonempty.Goals.{then-pair+in_ok-push, else-pair, then-ascending}
use Rattle.moc_ranges.proofs.from_ranges.sort_nonempty.Goals.{else-ascending, then-not-ascending, else-not-ascending}

pub loop-pair-preserved : goal.loop-pair-preserved
loop-pair-preserved c =
    let k = c.loop-pair.pair-index in
    let pairs = c.args.pairs.now in
    let pair = get_or pairs k (0, 0) in
    let inv = c.loop-pair.invariant in
    let next = take_more pairs k (0, 0) c.loop-pair-test.true in
    elim c.if-pair.branch [
      | then-pair+in_ok-push w ↦
          let items = ap (λ v. v.items) w.filled-is ∙ w.in_ok-push.ensures.items in
          record {
            same = λ q. ap (λ (rs : List (ℕ × ℕ)). in_ranges rs q) items ∙ in_ranges-push c.loop-pair.filled.items pair q ∙ ap (λ b. b || in_range pair q) (inv.same q) ∙ sym (in_ranges-push (take k pairs) pair q) ∙ ap (λ (rs : List (ℕ × ℕ)). in_ranges rs q) (sym next);
            good = subst (λ (rs : List (ℕ × ℕ)). All (λ r. (r.0 < r.1) × (r.1 ≤ pixel_count)) rs) (sym items) (All-push (λ r. (r.0 < r.1) × (r.1 ≤ pixel_count)) c.loop-pair.filled.items pair inv.good (w.if-pair.true, pair_within_sky 0 pairs k c.requires c.loop-pair-test.true));
            ascending = λ yes.
                let tests : (c.loop-pair.ascending ≡ true) × (c.loop-pair.last ≤ pair.0) = elim w.if-ascending.branch [
                  | then-ascending r ↦ (r.if-ascending.true, leb-true c.loop-pair.last pair.0 (sym r.ascending-is ∙ sym w.ascending-is ∙ yes))
                  | else-ascending r ↦ absurd (false≢true (sym r.if-ascending.false ∙ sym r.ascending-is ∙ sym w.ascending-is ∙ yes))
                ] in
                let old = inv.ascending tests.0 in
                rw (items, w.last-is) (sorted_push 0 c.loop-pair.last c.loop-pair.filled.items pair old.0 old.1 tests.1 (omega arith) w.if-pair.true (pair_within_sky 0 pairs k c.requires c.loop-pair-test.true), starts_push c.loop-pair.last c.loop-pair.filled.items pair old.1 tests.1);
          }
      | else-pair w ↦
          let items = ap (λ v. v.items) w.filled-is in
          record {
            same = λ q. ap (λ (rs : List (ℕ × ℕ)). in_ranges rs q) items ∙ inv.same q ∙ sym (in_ranges_without_empty (take k pairs) pair q w.if-pair.false) ∙ ap (λ (rs : List (ℕ × ℕ)). in_ranges rs q) (sym next);
            good = subst (λ (rs : List (ℕ × ℕ)). All (λ r. (r.0 < r.1) × (r.1 ≤ pixel_count)) rs) (sym items) inv.good;
            ascending = λ yes. rw (items, w.last-is) (inv.ascending (sym w.ascending-is ∙ yes));
          }
    ]

pub returns-clause-order : goal.returns-clause-order
returns-clause-order c = elim c.if-not-ascending.branch [
  | then-not-ascending w ↦
      let now = w.sort_unstable_by_key.new.self.items in
      rw w.filled-is (IsSortedFrom-sorted 0 now (λ d some. omega arith)
      (IsNonDecreasingBy-from_sort_by_key (λ r. r.0) now w.sort_unstable_by_key.ensures.sorted (λ a r q k. search rules))
      (All-permutation (λ r. (r.0 < r.1) × (r.1 ≤ pixel_count)) c.loop-pair.filled.items now w.sort_unstable_by_key.ensures.permutation c.loop-pair.invariant.good))
  | else-not-ascending w ↦ rw w.filled-is (c.loop-pair.invariant.ascending w.if-not-ascending.false).0
]

pub returns-clause-set : goal.returns-clause-set
returns-clause-set c = λ q.
    let whole = c.loop-pair.invariant.same q ∙ ap (λ (rs : List (ℕ × ℕ)). in_ranges rs q) (take_all c.loop-pair.pair-index c.args.pairs.now c.loop-pair-test.false) in
    elim c.if-not-ascending.branch [
      | then-not-ascending w ↦ ap (λ v. in_ranges v.items q) w.filled-is ∙ in_ranges-permutation c.loop-pair.filled.items w.sort_unstable_by_key.new.self.items q w.sort_unstable_by_key.ensures.permutation ∙ whole
      | else-not-ascending w ↦ ap (λ v. in_ranges v.items q) w.filled-is ∙ whole
    ]
