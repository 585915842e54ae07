-- Setting one more flag adds one more part.
use Rattle.std.proofs.Common.{◌≡◌, ◌≢◌, ℕ, zero, suc, ◌+◌, ◌<◌, Bool, true, false, ◌&&◌, ◌||◌, List, [], ◌∷◌, ◌++◌, length, get_or, replicate, set as set_at, nat_eq, nat_lt, inl, inr, refl, sym, ap, subst, ◌∙◌, arith}
use Rattle.std.specs.Cmp.{nat_cmp_total}
use Rattle.std.specs.List.{list_any}
use Rattle.std.proofs.lemmas.List.Folds.{list_any-append}
use Rattle.std.specs.Ordering.{nat_cmp, eq_by_cmp}
use Rattle.std.specs.FinSet as set
use Rattle.std.proofs.lemmas.Bool.{cases_eq, cases_lt, lt-ltb}
use Rattle.std.proofs.lemmas.Bool.Decides.{nat_tests}
use Rattle.std.proofs.lemmas.List.{get_or-replicate, get_or-set_same, get_or-set_other}
use Rattle.moc_lists.specs.Lemmas.Members.{same_members, contains-kept}
use Rattle.moc_parts.specs.Private.PartSets.{parts_of_flags, flags_of, contains-parts_of_flags, contains-flagged_below, flags_of-parts_of_flags}

-- setting a flag inserts the part
pub parts_of_flags-set : (flags : List Bool) (b : ℕ) → b < 12 → length flags ≡ 12 → parts_of_flags (set_at flags b true) ≡ set.insert (parts_of_flags flags) b
parts_of_flags-set flags b l twelve = same_members _ _ (λ q.
    contains-parts_of_flags (set_at flags b true) q
    ∙ elim (cases_eq b q) [
      | inl same ↦
          ap (λ k. nat_lt k 12 && get_or (set_at flags b true) k false) (sym same)
          ∙ ap (λ t. t && get_or (set_at flags b true) b false) (lt-ltb b 12 l)
          ∙ get_or-set_same flags b true false (subst (λ n. b < n) (sym twelve) l)
          ∙ sym (ap (λ t. t || set.contains (parts_of_flags flags) b) (tied b))
          ∙ sym (set.contains-insert nat_cmp_total (parts_of_flags flags) b b)
          ∙ ap (λ k. set.contains (set.insert (parts_of_flags flags) b) k) same
      | inr apart ↦
          ap (λ t. nat_lt q 12 && t) (get_or-set_other flags b q true false (λ e. apart (sym e)))
          ∙ sym (contains-parts_of_flags flags q)
          ∙ sym (ap (λ t. t || set.contains (parts_of_flags flags) q) (untied q b (λ e. apart (sym e))))
          ∙ sym (set.contains-insert nat_cmp_total (parts_of_flags flags) b q)
    ])
  where
    tied : (k : ℕ) → eq_by_cmp nat_cmp k k ≡ true
    tied k = grind (arith, nat_tests)

    untied : (j k : ℕ) → j ≢ k → eq_by_cmp nat_cmp j k ≡ false
    untied j k d = grind (arith, nat_tests)

-- the parts of flags that are all equal
flags_all_equal : (flags : List Bool) (v : Bool) → ((b : ℕ) → b < 12 → get_or flags b false ≡ v) → (b : ℕ) → set.contains (parts_of_flags flags) b ≡ (nat_lt b 12 && v)
flags_all_equal flags v alike b = contains-parts_of_flags flags b ∙ elim (cases_lt b 12) [
  | inl l ↦ ap (λ t. nat_lt b 12 && t) (alike b l)
  | inr ge ↦
      let past : nat_lt b 12 ≡ false = grind (arith, nat_tests) in
      ap (λ t. t && get_or flags b false) past ∙ sym (ap (λ t. t && v) past)
]

and_with_false : (b : Bool) → (b && false) ≡ false
and_with_false true = refl
and_with_false false = refl

and_with_true : (b : Bool) → (b && true) ≡ b
and_with_true true = refl
and_with_true false = refl

pub none_flagged : parts_of_flags (false ∷ false ∷ false ∷ false ∷ false ∷ false ∷ false ∷ false ∷ false ∷ false ∷ false ∷ false ∷ []) ≡ set.empty
none_flagged = same_members _ _ (λ q. flags_all_equal (replicate 12 false) false (λ b l. get_or-replicate 12 b false false l) q ∙ and_with_false (nat_lt q 12) ∙ sym (set.contains-empty nat_cmp q))

pub all_flagged : (b : ℕ) → set.contains (parts_of_flags (true ∷ true ∷ true ∷ true ∷ true ∷ true ∷ true ∷ true ∷ true ∷ true ∷ true ∷ true ∷ [])) b ≡ nat_lt b 12
all_flagged b = flags_all_equal (replicate 12 true) true (λ k l. get_or-replicate 12 k true false l) b ∙ and_with_true (nat_lt b 12)

-- the flagged parts below n
unfoldable pub flagged_until : List Bool → ℕ → set.FinSet nat_cmp
flagged_until flags n = set.retain (parts_of_flags flags) (λ b. nat_lt b n)

contains-until : (flags : List Bool) (n q : ℕ) → set.contains (flagged_until flags n) q ≡ ((nat_lt q 12 && get_or flags q false) && nat_lt q n)
unfolding flagged_until
contains-until flags n q =
    contains-kept (parts_of_flags flags) (λ b. nat_lt b n) q
    ∙ ap (λ t. t && nat_lt q n) (contains-parts_of_flags flags q)

contains-either : (a b : set.FinSet nat_cmp) (q : ℕ) → set.contains (set.union a b) q ≡ (set.contains a q || set.contains b q)
contains-either a b q = set.contains-union nat_cmp_total a b q

pub until-none : (a : set.FinSet nat_cmp) (flags : List Bool) → a ≡ set.union a (flagged_until flags 0)
until-none a flags = same_members _ _ (λ q. sym (contains-either a (flagged_until flags 0) q ∙ ap (λ t. set.contains a q || t) (contains-until flags 0 q) ∙ no_pixels (set.contains a q) (nat_lt q 12 && get_or flags q false) q))
  where
    no_pixels : (x y : Bool) (q : ℕ) → (x || (y && nat_lt q 0)) ≡ x
    no_pixels x y q = grind (arith, nat_tests)

pub until-all : (a : set.FinSet nat_cmp) (flags : List Bool) → set.union a (flagged_until flags 12) ≡ set.union a (parts_of_flags flags)
until-all a flags = same_members _ _ (λ q.
    contains-either a (flagged_until flags 12) q ∙ ap (λ t. set.contains a q || t) (contains-until flags 12 q ∙ whole q (get_or flags q false) ∙ sym (contains-parts_of_flags flags q))
    ∙ sym (contains-either a (parts_of_flags flags) q))
  where
    whole : (q : ℕ) (y : Bool) → ((nat_lt q 12 && y) && nat_lt q 12) ≡ (nat_lt q 12 && y)
    whole q y = grind (arith, nat_tests)

-- one more part, whose flag is set or not set
pub until-set : (a : set.FinSet nat_cmp) (flags : List Bool) (n : ℕ) → n < 12 → get_or flags n false ≡ true → set.insert (set.union a (flagged_until flags n)) n ≡ set.union a (flagged_until flags (n + 1))
until-set a flags n l is = same_members _ _ (λ q.
    set.contains-insert nat_cmp_total (set.union a (flagged_until flags n)) n q
    ∙ ap (λ t. eq_by_cmp nat_cmp q n || t) (contains-either a (flagged_until flags n) q ∙ ap (λ t. set.contains a q || t) (contains-until flags n q))
    ∙ more q (set.contains a q) (get_or flags q false) (λ e. ap (λ k. get_or flags k false) e ∙ is)
    ∙ sym (contains-either a (flagged_until flags (n + 1)) q ∙ ap (λ t. set.contains a q || t) (contains-until flags (n + 1) q)))
  where
    more : (q : ℕ) (x y : Bool) → (q ≡ n → y ≡ true) → (eq_by_cmp nat_cmp q n || (x || ((nat_lt q 12 && y) && nat_lt q n))) ≡ (x || ((nat_lt q 12 && y) && nat_lt q (n + 1)))
    more q x y here = elim (cases_eq q n) [
      | inl same ↦ let set_here = here same in grind (arith, nat_tests)
      | inr apart ↦ grind (arith, nat_tests)
    ]

pub until-unset : (a : set.FinSet nat_cmp) (flags : List Bool) (n : ℕ) → get_or flags n false ≡ false → set.union a (flagged_until flags n) ≡ set.union a (flagged_until flags (n + 1))
until-unset a flags n is = same_members _ _ (λ q.
    contains-either a (flagged_until flags n) q ∙ ap (λ t. set.contains a q || t) (contains-until flags n q ∙ same_there q (get_or flags q false) (λ e. ap (λ k. get_or flags k false) e ∙ is) ∙ sym (contains-until flags (n + 1) q))
    ∙ sym (contains-either a (flagged_until flags (n + 1)) q))
  where
    same_there : (q : ℕ) (y : Bool) → (q ≡ n → y ≡ false) → ((nat_lt q 12 && y) && nat_lt q n) ≡ ((nat_lt q 12 && y) && nat_lt q (n + 1))
    same_there q y here = elim (cases_eq q n) [
      | inl same ↦ let unset_here = here same in grind (arith, nat_tests)
      | inr apart ↦ grind (arith, nat_tests)
    ]

-- flags are determined by the parts that they represent
pub flags_of_parts : (flags : List Bool) (parts : set.FinSet nat_cmp) → parts_of_flags flags ≡ parts → length flags ≡ 12 → flags ≡ flags_of parts
flags_of_parts flags parts shown twelve = sym (flags_of-parts_of_flags flags twelve) ∙ ap flags_of shown

-- membership after an insertion
pub inserted : (s t : set.FinSet nat_cmp) (n k : ℕ) → t ≡ set.insert s n → set.contains t k ≡ (nat_eq n k || set.contains s k)
inserted s t n k e = ap (λ parts. set.contains parts k) e ∙ set.contains-insert nat_cmp_total s n k ∙ ap (λ b. b || set.contains s k) (tie n k)
  where
    tie : (n k : ℕ) → eq_by_cmp nat_cmp k n ≡ nat_eq n k
    tie n k = grind (arith, nat_tests)

-- membership in the empty set
pub no_pixel_in_empty : (t : set.FinSet nat_cmp) (k : ℕ) → t ≡ set.empty → set.contains t k ≡ false
no_pixel_in_empty t k e = ap (λ parts. set.contains parts k) e ∙ set.contains-empty nat_cmp k

-- membership in a union
pub either_has : (s t u : set.FinSet nat_cmp) (k : ℕ) → u ≡ set.union s t → set.contains u k ≡ (set.contains s k || set.contains t k)
either_has s t u k e = ap (λ parts. set.contains parts k) e ∙ contains-either s t k

or_shift : (x y z : Bool) → (x || (y || z)) ≡ (y || (z || x))
or_shift true true z = refl
or_shift true false true = refl
or_shift true false false = refl
or_shift false true z = refl
or_shift false false true = refl
or_shift false false false = refl

-- whether any number passes the test, with one more number
pub any-more : (test : ℕ → Bool) (xs : List ℕ) (n : ℕ) (h : Bool) → (test n || (h || list_any test xs)) ≡ (h || list_any test (xs ++ n ∷ []))
any-more test xs n h = or_shift (test n) h (list_any test xs) ∙ ap (λ t. h || t) (sym (list_any-append test xs (n ∷ []) ∙ ap (λ t. list_any test xs || t) (last (test n))))
  where
    last : (x : Bool) → (x || false) ≡ x
    last true = refl
    last false = refl

some_set : (flags : List Bool) → list_any (λ flag. flag) flags ≡ true → (b : ℕ) × (b < length flags) × (get_or flags b false ≡ true)
some_set [] is = absurd (cc)
some_set (true ∷ flags) is = (0, omega arith, refl)
some_set (false ∷ flags) is = let later = some_set flags is in (suc later.0, omega (arith, later.1), later.2)

set_at_some : (flags : List Bool) (b : ℕ) → get_or flags b false ≡ true → list_any (λ flag. flag) flags ≡ true
set_at_some [] b is = absurd (cc)
set_at_some (true ∷ flags) b is = refl
set_at_some (false ∷ flags) zero is = absurd (cc)
set_at_some (false ∷ flags) (suc b) is = set_at_some flags b is

-- no flag is set if and only if the set of parts is empty
pub none_set : (flags : List Bool) → length flags ≡ 12 → (list_any (λ flag. flag) flags ≡ false → parts_of_flags flags ≡ set.empty) × (parts_of_flags flags ≡ set.empty → list_any (λ flag. flag) flags ≡ false)
none_set flags twelve = (
  λ none. same_members _ _ (λ q. contains-parts_of_flags flags q ∙ ap (λ t. nat_lt q 12 && t) (no_flag none q (get_or flags q false) refl) ∙ and_with_false (nat_lt q 12) ∙ sym (set.contains-empty nat_cmp q)),
  λ empty. no_part empty (list_any (λ flag. flag) flags) refl,
)
  where
    no_flag : list_any (λ flag. flag) flags ≡ false → (q : ℕ) (t : Bool) → get_or flags q false ≡ t → t ≡ false
    no_flag none q true is = absurd (let some = set_at_some flags q is in cc)
    no_flag none q false is = refl

    no_part : parts_of_flags flags ≡ set.empty → (t : Bool) → list_any (λ flag. flag) flags ≡ t → t ≡ false
    no_part empty true is = absurd (let at = some_set flags is in
        let has = contains-flagged_below flags at.0 (subst (λ n. at.0 < n) twelve at.1) ∙ at.2 in
        let lacks = no_pixel_in_empty (parts_of_flags flags) at.0 empty in cc)
    no_part empty false is = refl
