-- Lemmas about iterating over a set of parts.
pub mod SingleParts
use Rattle.std.specs.Prelude.{◌≡◌, ℕ, zero, suc, ◌+◌, ◌-◌, ◌<◌, ◌≤◌, Bool, true, false, List, [], ◌∷◌, slice_index_or}
use Rattle.std.specs.FinSet as set
use Rattle.std.specs.Ordering.{nat_cmp}
use Rattle.std.proofs.Common.{◌∙◌, refl, sym, ap, subst, arith, inl, inr}
use Rattle.std.proofs.lemmas.Bool.{cases_Bool, cases_lt}
use Rattle.std.proofs.lemmas.List.FromFn.{get_or-range_with_len}
use Rattle.moc_parts.specs.Parts.{parts_from}

-- in the list of all twelve parts, the element at index b is b
pub all_parts : (b d : ℕ) → b < 12
    → slice_index_or (0 ∷ (1 ∷ (2 ∷ (3 ∷ (4 ∷ (5 ∷ (6 ∷ (7 ∷ (8 ∷ (9 ∷ (10 ∷ (11 ∷ [])))))))))))) b d ≡ b
all_parts b d l = let e : 0 + b ≡ b = omega arith in get_or-range_with_len 0 12 b d l ∙ e

counted : (n : ℕ) → n < 12 → 12 - n ≡ suc (12 - (n + 1))
counted n below = omega arith

-- if n is in the set, n is the first part from n on
pub parts_from-in : (parts : set.FinSet nat_cmp) (n : ℕ) → n < 12 → set.contains parts n ≡ true
    → parts_from parts n ≡ n ∷ parts_from parts (n + 1)
parts_from-in parts n below is = rw (counted n below, is) refl

-- if n is not in the set, n is skipped
pub parts_from-out : (parts : set.FinSet nat_cmp) (n : ℕ) → n < 12 → set.contains parts n ≡ false
    → parts_from parts n ≡ parts_from parts (n + 1)
parts_from-out parts n below is = rw (counted n below, is) refl

none_left : (n : ℕ) → 12 ≤ n → 12 - n ≡ 0
none_left n beyond = omega arith

-- from twelve on, no part remains
pub parts_from-end : (parts : set.FinSet nat_cmp) (n : ℕ) → 12 ≤ n → parts_from parts n ≡ []
parts_from-end parts n beyond = rw (none_left n beyond) refl

-- an iterator state: the remaining parts are those from n on that pass the test
pub record IsRemaining (test : ℕ → Bool) (n : ℕ) (parts : List ℕ) : Type 0 where
  pub whole : set.FinSet nat_cmp
  pub same : (b : ℕ) → b < 12 → set.contains whole b ≡ test b
  pub within : n ≤ 12
  pub sorted : parts ≡ parts_from whole n

-- at the start of the iteration, all parts remain
pub all_remain : (test : ℕ → Bool) (whole : set.FinSet nat_cmp) (parts : List ℕ)
    → ((b : ℕ) → b < 12 → set.contains whole b ≡ test b) → parts ≡ parts_from whole 0 → IsRemaining test 0 parts
all_remain test whole parts same is = record { whole = whole; same = same; within = omega arith; sorted = is }

-- b is the next part that passes the test, and the others remain after it
pub record IsNext (test : ℕ → Bool) (n b : ℕ) (others : List ℕ) : Type 0 where
  pub after : n ≤ b
  pub below : b < 12
  pub passes : test b ≡ true
  pub between : (k : ℕ) → n ≤ k → k < b → test k ≡ false
  pub remains : IsRemaining test (b + 1) others

next_of : (d : ℕ) (test : ℕ → Bool) (n b : ℕ) (others : List ℕ) → n + d ≡ 12 → IsRemaining test n (b ∷ others)
    → IsNext test n b others
next_of zero test n b others e h =
    let none : b ∷ others ≡ [] = h.sorted ∙ parts_from-end h.whole n (omega arith) in absurd (cc)
next_of (suc d) test n b others e h = elim (cases_Bool (test n)) [
  | inl holds ↦
      let first : b ∷ others ≡ n ∷ parts_from h.whole (n + 1) =
      h.sorted ∙ parts_from-in h.whole n (omega arith) (h.same n (omega arith) ∙ holds) in
      let here : b ≡ n = cc in
      let rest : others ≡ parts_from h.whole (n + 1) = cc in
      record {
        after = omega arith;
        below = omega arith;
        passes = ap test here ∙ holds;
        between = λ k l m. absurd (omega arith);
        remains = record {
          whole = h.whole;
          same = h.same;
          within = omega arith;
          sorted = rest ∙ ap (λ m. parts_from h.whole (m + 1)) (sym here);
        };
      }
  | inr fails ↦
      let sorted : b ∷ others ≡ parts_from h.whole (n + 1) =
      h.sorted ∙ parts_from-out h.whole n (omega arith) (h.same n (omega arith) ∙ fails) in
      let later : IsNext test (n + 1) b others =
      next_of d test (n + 1) b others (omega arith)
      (record { whole = h.whole; same = h.same; within = omega arith; sorted = sorted }) in
      record {
        after = omega (arith, later.after);
        below = later.below;
        passes = later.passes;
        between = λ k l m. elim (cases_lt n k) [
          | inl behind ↦ later.between k (omega arith) m
          | inr first ↦ let is : k ≡ n = omega arith in ap test is ∙ fails
        ];
        remains = later.remains;
      }
]

-- the next step of the iteration
pub next_remaining : (test : ℕ → Bool) (n b : ℕ) (parts others : List ℕ) → IsRemaining test n parts → parts ≡ b ∷ others
    → IsNext test n b others
next_remaining test n b parts others h is =
    next_of (12 - n) test n b others (omega (arith, h.within)) (subst (IsRemaining test n) is h)

none_from : (d : ℕ) (test : ℕ → Bool) (n : ℕ) → n + d ≡ 12 → IsRemaining test n [] → (k : ℕ) → n ≤ k → k < 12
    → test k ≡ false
none_from zero test n e h k l m = absurd (omega arith)
none_from (suc d) test n e h k l m = elim (cases_Bool (test n)) [
  | inl holds ↦
      let nil : List ℕ = [] in
      let some : nil ≡ n ∷ parts_from h.whole (n + 1) =
      h.sorted ∙ parts_from-in h.whole n (omega arith) (h.same n (omega arith) ∙ holds) in absurd (cc)
  | inr fails ↦
      let nil : List ℕ = [] in
      let sorted : nil ≡ parts_from h.whole (n + 1) =
      h.sorted ∙ parts_from-out h.whole n (omega arith) (h.same n (omega arith) ∙ fails) in
      let remains : IsRemaining test (n + 1) nil =
      record { whole = h.whole; same = h.same; within = omega arith; sorted = sorted } in
      elim (cases_lt n k) [
        | inl behind ↦ none_from d test (n + 1) (omega arith) remains k (omega arith) m
        | inr first ↦ let is : k ≡ n = omega arith in ap test is ∙ fails
      ]
]

-- at the end of the iteration, no part from n on passes the test
pub none_remaining : (test : ℕ → Bool) (n : ℕ) (parts : List ℕ) → IsRemaining test n parts → parts ≡ [] → (k : ℕ)
    → n ≤ k
    → k < 12 → test k ≡ false
none_remaining test n parts h is =
    none_from (12 - n) test n (omega (arith, h.within)) (subst (IsRemaining test n) is h)
