-- Sums of the sizes of sets.
use Rattle.std.proofs.Common.{◌≡◌, ℕ, ◌+◌, Bool, true, false, cond, not, ◌&&◌, ◌||◌, List, [], ◌∷◌, refl, sym, ap, ◌∙◌}
use Rattle.std.proofs.Common.{arith, inl, inr}
use Rattle.std.specs.FinSet as set
use Rattle.std.specs.Ordering.{nat_cmp, eq_by_cmp}
use Rattle.std.specs.Cmp.{nat_cmp_total}
use Rattle.std.proofs.lemmas.Bool.{cases_Bool, cases_eq}
use Rattle.std.proofs.lemmas.Bool.Decides.{nat_tests}
use Rattle.moc_blocks.specs.RangeList.{NumberSet}
use Rattle.moc_blocks.specs.Lemmas.Members.{contains-kept, same_members, and_false}

insert_step : (e s pq pk : Bool) → (e ≡ true → pq ≡ pk) → ((e || s) && pq) ≡ cond pk (e || (s && pq)) (s && pq)
insert_step true s pq true same = same refl
insert_step true s pq false same = same refl ∙ sym (ap (λ b. s && b) (same refl) ∙ and_false s)
insert_step false s pq true same = refl
insert_step false s pq false same = refl

different_numbers_unequal : (q k : ℕ) → (q ≡ k → ⊥) → eq_by_cmp nat_cmp q k ≡ false
different_numbers_unequal q k not = grind (arith, nat_tests)

same_number : (q k : ℕ) → eq_by_cmp nat_cmp q k ≡ true → q ≡ k
same_number q k e =
    elim (cases_eq q k) [
      | inl is ↦ is
      | inr not ↦ absurd (let no : eq_by_cmp nat_cmp q k ≡ false = different_numbers_unequal q k not in cc)
    ]

tie_same : (p : ℕ → Bool) (q k : ℕ) → eq_by_cmp nat_cmp q k ≡ true → p q ≡ p k
tie_same p q k e = ap p (same_number q k e)

retain-insert : (a : NumberSet) (k : ℕ) (p : ℕ → Bool)
    → set.retain (set.insert a k) p ≡ cond (p k) (set.insert (set.retain a p) k) (set.retain a p)
retain-insert a k p = same_members _ _ (λ q.
    contains-kept (set.insert a k) p q
    ∙ ap (λ b. b && p q) (set.contains-insert nat_cmp_total a k q)
    ∙ insert_step (eq_by_cmp nat_cmp q k) (set.contains a q) (p q) (p k) (tie_same p q k)
    ∙ elim (p k) as (λ b.
    cond b (eq_by_cmp nat_cmp q k || (set.contains a q && p q)) (set.contains a q && p q)
    ≡ set.contains (cond b (set.insert (set.retain a p) k) (set.retain a p)) q) [
      | true ↦
          ap (λ b. eq_by_cmp nat_cmp q k || b) (sym (contains-kept a p q))
          ∙ sym (set.contains-insert nat_cmp_total (set.retain a p) k q)
      | false ↦ sym (contains-kept a p q)
    ])

old : (e s : Bool) → (e ≡ true → s ≡ true) → (e || s) ≡ s
old true s say = sym (say refl)
old false s say = refl

insert-old : (a : NumberSet) (k : ℕ) → set.contains a k ≡ true → set.insert a k ≡ a
insert-old a k has = same_members _ _ (λ q.
    set.contains-insert nat_cmp_total a k q
    ∙ old (eq_by_cmp nat_cmp q k) (set.contains a q) (λ e. ap (set.contains a) (same_number q k e) ∙ has))

len-retain-insert : (a : NumberSet) (k : ℕ) (p : ℕ → Bool) → set.contains a k ≡ false
    → set.len (set.retain (set.insert a k) p) ≡ cond (p k) (set.len (set.retain a p) + 1) (set.len (set.retain a p))
len-retain-insert a k p new =
    let fresh : set.contains (set.retain a p) k ≡ false = contains-kept a p k ∙ ap (λ b. b && p k) new in
    ap set.len (retain-insert a k p)
    ∙ elim (p k) as (λ b.
    set.len (cond b (set.insert (set.retain a p) k) (set.retain a p))
    ≡ cond b (set.len (set.retain a p) + 1) (set.len (set.retain a p))) [
      | true ↦
          set.len-insert nat_cmp_total (set.retain a p) k
          ∙ ap (λ b. cond b (set.len (set.retain a p)) (set.len (set.retain a p) + 1)) fresh
      | false ↦ refl
    ]

one_side : (b : Bool) (x y n : ℕ) → x + y ≡ n → cond b (x + 1) x + cond (not b) (y + 1) y ≡ n + 1
one_side true x y n e = omega arith
one_side false x y n e = omega arith

split_list : (p : ℕ → Bool) (ks : List ℕ)
    → set.len (set.retain (set.from_list {R = nat_cmp} ks) p)
    + set.len (set.retain (set.from_list {R = nat_cmp} ks) (λ k. not (p k)))
    ≡ set.len (set.from_list {R = nat_cmp} ks)
split_list p [] =
    let none : (t : ℕ → Bool) → set.retain (set.empty {R = nat_cmp}) t ≡ set.empty =
    λ t. same_members _ _ (λ q.
    contains-kept set.empty t q
    ∙ ap (λ b. b && t q) (set.contains-empty nat_cmp q)
    ∙ sym (set.contains-empty nat_cmp q)) in
    (λ i. set.len (none p i) + set.len (none (λ k. not (p k)) i))
    ∙ (λ i. set.len-empty nat_cmp i + set.len-empty nat_cmp i)
    ∙ sym (set.len-empty nat_cmp)
split_list p (k ∷ ks) =
    let a : NumberSet = set.from_list ks in
    let before = split_list p ks in
    elim (cases_Bool (set.contains a k)) [
      | inl has ↦
          ap (λ (s : NumberSet). set.len (set.retain s p) + set.len (set.retain s (λ k. not (p k))))
          (insert-old a k has)
          ∙ before
          ∙ ap set.len (sym (insert-old a k has))
      | inr new ↦
          (λ i. len-retain-insert a k p new i + len-retain-insert a k (λ k. not (p k)) new i)
          ∙ one_side (p k) _ _ _ before
          ∙ sym (set.len-insert nat_cmp_total a k ∙ ap (λ b. cond b (set.len a) (set.len a + 1)) new)
    ]

-- the size of a set is the sum of the sizes of its intersection with another set and its difference from it
pub len_parts : (a b : NumberSet) → set.len (set.intersection a b) + set.len (set.difference a b) ≡ set.len a
len_parts a b =
    let listed : set.from_list (set.items a) ≡ a =
    same_members _ _ (λ q. set.contains-from_list nat_cmp_total (set.items a) q ∙ sym (set.contains-items a q)) in
    let common : set.intersection a b ≡ set.retain a (set.contains b) =
    same_members _ _ (λ q.
    set.contains-intersection nat_cmp_total a b q ∙ sym (contains-kept a (set.contains b) q)) in
    let other : set.difference a b ≡ set.retain a (λ k. not (set.contains b k)) =
    same_members _ _ (λ q.
    set.contains-difference nat_cmp_total a b q ∙ sym (contains-kept a (λ k. not (set.contains b k)) q)) in
    (λ i. set.len (common i) + set.len (other i))
    ∙ ap (λ (s : NumberSet).
    set.len (set.retain s (set.contains b)) + set.len (set.retain s (λ k. not (set.contains b k)))) (sym listed)
    ∙ split_list (set.contains b) (set.items a) ∙ ap set.len listed
