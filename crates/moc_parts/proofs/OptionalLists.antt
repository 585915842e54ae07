-- Lists of some of the twelve parts as twelve optional lists.
use Rattle.std.proofs.Common.{◌≡◌, ℕ, zero, suc, ◌+◌, ◌<◌, ◌≤◌, Bool, true, false, ◌&&◌, List, [], ◌∷◌, ◌++◌, Option, None, Some, length, get_or, replicate, nat_eq, if◌then◌else◌, inl, inr, refl, sym, ap, subst, ◌∙◌, arith}
use Rattle.std.specs.Prelude.{set as set_at}
use Rattle.std.proofs.lemmas.Bool.Decides.{nat_tests}
use Rattle.std.proofs.lemmas.Bool.{cases_eq}
use Rattle.std.proofs.lemmas.List.{ext_get_or, length-set, get_or-set_same, get_or-set_other}
use Rattle.std.proofs.lemmas.List.FromFn.{length-map-range_with_len, get_or-map-range_with_len}
use Rattle.moc_lists.specs.RangeList.{NumberSet}
use Rattle.moc_parts.specs.Private.Drafts.{list_of_part, twelve_lists, index_of_part_from}

length-twelve_lists : (lists : List (ℕ × Option NumberSet)) → length (twelve_lists lists) ≡ 12
unfolding twelve_lists
length-twelve_lists lists = length-map-range_with_len (list_of_part lists) 0 12

get-twelve_lists : (lists : List (ℕ × Option NumberSet)) (b : ℕ) (d : Option NumberSet) → b < 12 → get_or (twelve_lists lists) b d ≡ list_of_part lists b
unfolding twelve_lists
get-twelve_lists lists b d l = get_or-map-range_with_len (list_of_part lists) 0 12 b b d l (omega arith)

pub twelve_lists-none : twelve_lists [] ≡ replicate 12 None
unfolding twelve_lists
twelve_lists-none = refl

-- ---- comparing parts

eq_same : (a b : ℕ) → a ≡ b → nat_eq a b ≡ true
eq_same a b e = grind (arith, nat_tests)

eq_other : (a b : ℕ) → (a ≡ b → ⊥) → nat_eq a b ≡ false
eq_other a b e = grind (arith, nat_tests)

not_both : (a b k : ℕ) → (a ≡ b → ⊥) → (nat_eq a k && nat_eq b k) ≡ false
not_both a b k e = grind (arith, nat_tests)

-- two tests that exclude each other, in either order
swap_conditions : (s t : Bool) (x y z : Option NumberSet) → (s && t) ≡ false → (if s then x else (if t then y else z)) ≡ (if t then y else (if s then x else z))
swap_conditions true true x y z e = absurd (cc)
swap_conditions true false x y z e = refl
swap_conditions false t x y z e = refl

index_of_first_part : (n : ℕ) (entry : ℕ × Option NumberSet) (lists : List (ℕ × Option NumberSet)) (b : ℕ) → entry.0 ≡ b → index_of_part_from n (entry ∷ lists) b ≡ Some n
index_of_first_part n entry lists b same = ap (λ t. if t then Some n else index_of_part_from (suc n) lists b) (eq_same entry.0 b same)

place_later : (n : ℕ) (entry : ℕ × Option NumberSet) (lists : List (ℕ × Option NumberSet)) (b : ℕ) → (entry.0 ≡ b → ⊥) → index_of_part_from n (entry ∷ lists) b ≡ index_of_part_from (suc n) lists b
place_later n entry lists b other = ap (λ t. if t then Some n else index_of_part_from (suc n) lists b) (eq_other entry.0 b other)

some_same : (i k : ℕ) → Some i ≡ Some k → i ≡ k
some_same i k e = cc

not_none : (n : ℕ) → Some n ≡ None → ⊥
not_none n e = absurd (cc)

-- ---- the twelve optional lists

-- lists in which the list of part b is replaced
abbrev pub IsPut : List (ℕ × Option NumberSet) → List (ℕ × Option NumberSet) → ℕ → Option NumberSet → Type 0
IsPut lists new b list = (k : ℕ) → list_of_part new k ≡ (if nat_eq b k then list else list_of_part lists k)

-- the replacement in the twelve optional lists
put_into_twelve : (lists new : List (ℕ × Option NumberSet)) (b : ℕ) (list : Option NumberSet) → b < 12 → IsPut lists new b list
    → twelve_lists new ≡ set_at (twelve_lists lists) b list
put_into_twelve lists new b list l put =
    let old : List (Option NumberSet) = twelve_lists lists in
    let many : length old ≡ 12 = length-twelve_lists lists in
    ext_get_or None (twelve_lists new) (set_at old b list) (length-twelve_lists new ∙ sym (length-set old b list ∙ many))
    (λ k lt.
    let small : k < 12 = subst (λ n. k < n) (length-twelve_lists new) lt in
    get-twelve_lists new k None small ∙ put k ∙ elim (cases_eq k b) [
      | inl same ↦ ap (λ t. if t then list else list_of_part lists k) (eq_same b k (sym same))
          ∙ sym (ap (λ n. get_or (set_at old b list) n None) same ∙ get_or-set_same old b list None (subst (λ n. b < n) (sym many) l))
      | inr other ↦ ap (λ t. if t then list else list_of_part lists k) (eq_other b k (λ e. other (sym e)))
          ∙ sym (get_or-set_other old b k list None other ∙ get-twelve_lists lists k None small)
    ])

-- ---- a part without an entry

list_of_missing_part : (n : ℕ) (lists : List (ℕ × Option NumberSet)) (b : ℕ) → index_of_part_from n lists b ≡ None → list_of_part lists b ≡ None
list_of_missing_part n [] b e = refl
list_of_missing_part n (entry ∷ lists) b e = elim (cases_eq entry.0 b) [
  | inl same ↦ absurd (not_none n (sym (index_of_first_part n entry lists b same) ∙ e))
  | inr other ↦ ap (λ t. if t then entry.1 else list_of_part lists b) (eq_other entry.0 b other)
      ∙ list_of_missing_part (suc n) lists b (sym (place_later n entry lists b other) ∙ e)
]

put_missing_appends : (n : ℕ) (lists : List (ℕ × Option NumberSet)) (b : ℕ) (list : Option NumberSet) → index_of_part_from n lists b ≡ None → IsPut lists (lists ++ (b, list) ∷ []) b list
put_missing_appends n [] b list e k = refl
put_missing_appends n (entry ∷ lists) b list e k = elim (cases_eq entry.0 b) [
  | inl same ↦ absurd (not_none n (sym (index_of_first_part n entry lists b same) ∙ e))
  | inr other ↦ ap (λ o. if nat_eq entry.0 k then entry.1 else o) (put_missing_appends (suc n) lists b list (sym (place_later n entry lists b other) ∙ e) k)
      ∙ swap_conditions (nat_eq entry.0 k) (nat_eq b k) entry.1 list (list_of_part lists k) (not_both entry.0 b k other)
]

-- ---- a part with an entry

-- the properties of entry j if it is the first entry for part b
pub record IsFirst (lists : List (ℕ × Option NumberSet)) (b : ℕ) (j : ℕ) : Type 0 where
  pub within : j < length lists
  pub part : (d : ℕ × Option NumberSet) → (get_or lists j d).0 ≡ b
  pub list : (d : ℕ × Option NumberSet) → (get_or lists j d).1 ≡ list_of_part lists b
  pub put : (entry : ℕ × Option NumberSet) → entry.0 ≡ b → IsPut lists (set_at lists j entry) b entry.1

first_entry_of_part : (entry : ℕ × Option NumberSet) (lists : List (ℕ × Option NumberSet)) (b : ℕ) → entry.0 ≡ b → IsFirst (entry ∷ lists) b 0
first_entry_of_part entry lists b same = record {
  within = omega arith;
  part = λ d. same;
  list = λ d. sym (ap (λ t. if t then entry.1 else list_of_part lists b) (eq_same entry.0 b same));
  put = λ new is k.
      ap (λ a. if nat_eq a k then new.1 else list_of_part lists k) is ∙ twice (nat_eq b k) new.1 entry.1 (list_of_part lists k)
      ∙ ap (λ a. if nat_eq b k then new.1 else (if nat_eq a k then entry.1 else list_of_part lists k)) (sym same);
}
  where
    twice : (t : Bool) (x y z : Option NumberSet) → (if t then x else z) ≡ (if t then x else (if t then y else z))
    twice true x y z = refl
    twice false x y z = refl

first_later : (entry : ℕ × Option NumberSet) (lists : List (ℕ × Option NumberSet)) (b j : ℕ) → (entry.0 ≡ b → ⊥) → IsFirst lists b j → IsFirst (entry ∷ lists) b (suc j)
first_later entry lists b j other first = record {
  within = (let l = first.within in omega arith);
  part = λ d. first.part d;
  list = λ d. first.list d ∙ sym (ap (λ t. if t then entry.1 else list_of_part lists b) (eq_other entry.0 b other));
  put = λ new is k.
      ap (λ o. if nat_eq entry.0 k then entry.1 else o) (first.put new is k)
      ∙ swap_conditions (nat_eq entry.0 k) (nat_eq b k) entry.1 new.1 (list_of_part lists k) (not_both entry.0 b k other);
}

not_before : (n : ℕ) (lists : List (ℕ × Option NumberSet)) (b i : ℕ) → index_of_part_from n lists b ≡ Some i → n ≤ i
not_before n [] b i e = absurd (cc)
not_before n (entry ∷ lists) b i e = elim (cases_eq entry.0 b) [
  | inl same ↦ (let is : n ≡ i = some_same n i (sym (index_of_first_part n entry lists b same) ∙ e) in omega arith)
  | inr other ↦ (let past : suc n ≤ i = not_before (suc n) lists b i (sym (place_later n entry lists b other) ∙ e) in omega arith)
]

first_from : (n : ℕ) (lists : List (ℕ × Option NumberSet)) (b i j : ℕ) → index_of_part_from n lists b ≡ Some i → i ≡ n + j → IsFirst lists b j
first_from n [] b i j e at = absurd (cc)
first_from n (entry ∷ lists) b i zero e at = elim (cases_eq entry.0 b) [
  | inl same ↦ first_entry_of_part entry lists b same
  | inr other ↦ absurd (let past : suc n ≤ i = not_before (suc n) lists b i (sym (place_later n entry lists b other) ∙ e) in omega arith)
]
first_from n (entry ∷ lists) b i (suc j) e at = elim (cases_eq entry.0 b) [
  | inl same ↦ absurd (let is : n ≡ i = some_same n i (sym (index_of_first_part n entry lists b same) ∙ e) in omega arith)
  | inr other ↦ first_later entry lists b j other (first_from (suc n) lists b i j (sym (place_later n entry lists b other) ∙ e) (omega arith))
]

pub is_first : (lists : List (ℕ × Option NumberSet)) (b i : ℕ) → index_of_part_from 0 lists b ≡ Some i → IsFirst lists b i
is_first lists b i e = first_from 0 lists b i i e (omega arith)

-- ---- setting or removing one list

pub entry_at_index : (lists : List (ℕ × Option NumberSet)) (b i : ℕ) (entry : ℕ × Option NumberSet) → b < 12 → index_of_part_from 0 lists b ≡ Some i → entry.0 ≡ b
    → twelve_lists (set_at lists i entry) ≡ set_at (twelve_lists lists) b entry.1
entry_at_index lists b i entry l e is = put_into_twelve lists (set_at lists i entry) b entry.1 l ((is_first lists b i e).put entry is)

pub entry_is_new : (lists : List (ℕ × Option NumberSet)) (b : ℕ) (list : Option NumberSet) → b < 12 → index_of_part_from 0 lists b ≡ None
    → twelve_lists (lists ++ (b, list) ∷ []) ≡ set_at (twelve_lists lists) b list
entry_is_new lists b list l e = put_into_twelve lists (lists ++ (b, list) ∷ []) b list l (put_missing_appends 0 lists b list e)

pub get_at_index : (lists : List (ℕ × Option NumberSet)) (b i : ℕ) (entry : ℕ × Option NumberSet) → b < 12 → index_of_part_from 0 lists b ≡ Some i → entry ≡ get_or lists i entry
    → entry.1 ≡ get_or (twelve_lists lists) b None
get_at_index lists b i entry l e is = ap (λ x. x.1) is ∙ (is_first lists b i e).list entry ∙ sym (get-twelve_lists lists b None l)

pub get_of_missing : (lists : List (ℕ × Option NumberSet)) (b : ℕ) → b < 12 → index_of_part_from 0 lists b ≡ None → None ≡ get_or (twelve_lists lists) b None
get_of_missing lists b l e = sym (get-twelve_lists lists b None l ∙ list_of_missing_part 0 lists b e)

-- removing the list of a part without a list has no effect
pub none_left : (lists : List (ℕ × Option NumberSet)) (b : ℕ) → b < 12 → index_of_part_from 0 lists b ≡ None → twelve_lists lists ≡ set_at (twelve_lists lists) b None
none_left lists b l e = put_into_twelve lists lists b None l (λ k. elim (cases_eq b k) [
  | inl same ↦ ap (list_of_part lists) (sym same) ∙ list_of_missing_part 0 lists b e ∙ sym (ap (λ t. if t then None else list_of_part lists k) (eq_same b k same))
  | inr other ↦ sym (ap (λ t. if t then None else list_of_part lists k) (eq_other b k other))
])
