-- The members, written order by order in the byte order of their names, are those that the definition inserts one after
-- another. Their tokens are parsed as these members.
use Rattle.std.proofs.Common.{Less, Equal, Greater, ◌≡◌, ℕ, zero, suc, Bool, true, false, cond, ◌&&◌, eqb, List, [], ◌∷◌, ◌++◌, map, Option, Some, refl, sym, ap, ◌∙◌, arith, append-nil, append_assoc}
use Rattle.std.specs.Prelude.{decimal, option_map, option_and_then}
use Rattle.std.specs.Ordering.{nat_cmp, is_lt, is_gt}
use Rattle.std.specs.declared.cmp.Ordering.{Ordering}
use Rattle.std.specs.Cmp.Lexicographic.{slice_cmp}
use Rattle.std.specs.List.{filter, AllByRecursion}
use Rattle.std.specs.Fmt.{digits}
use Rattle.json.specs.Tree.{ItemsHaveNumbers, MembersHaveNumbers}
use Rattle.json.proofs.Printed.Decimals.{IsNumber-decimal}
use Rattle.serde_json.specs.Data.{Data, array, Members, no_members, member, put}
use Rattle.serde_json.specs.View.{items_of}
use Rattle.serde_json.specs.Read.{of_json, of_items, of_members}
use Rattle.serde_json.specs.Written.{outline, items_outline, members_outline}
use Rattle.serde_json.proofs.Numbers.{number_of-decimal}
use Rattle.moc_sphere.specs.CellNumber.{CellNumber, IsCell}
use Rattle.moc_text.specs.JsonText.{datum, data_at, is_name, members_below}
use Rattle.moc_text.specs.Private.JsonWriting.{orders_by_name, members_in_order}
use Rattle.moc_text.proofs.Powers.{cells_fit}

-- the members with those of one more order, if it is a name
abbrev pub with_order : ℕ → Option ℕ → List Data → Members → Members
with_order k empty_order ds members = cond (is_name k empty_order ds) (put (decimal k) (array (items_of ds)) members) members

-- ---- orders by their names

abbrev comes_before : ℕ → ℕ → Bool
comes_before k j = is_lt (slice_cmp nat_cmp (decimal k) (decimal j))

abbrev comes_after : ℕ → ℕ → Bool
comes_after k j = is_gt (slice_cmp nat_cmp (decimal k) (decimal j))

abbrev before_all : ℕ → List ℕ → Bool
before_all k [] = true
before_all k (j ∷ js) = comes_before k j && before_all k js

abbrev after_all : ℕ → List ℕ → Bool
after_all k [] = true
after_all k (j ∷ js) = comes_after k j && after_all k js

-- the leading orders that an order comes after, and the remaining ones
abbrev front_of : ℕ → List ℕ → List ℕ
front_of k [] = []
front_of k (j ∷ js) = cond (comes_after k j) (j ∷ front_of k js) []

abbrev back_of : ℕ → List ℕ → List ℕ
back_of k [] = []
back_of k (j ∷ js) = cond (comes_after k j) (back_of k js) (j ∷ js)

front_and_back : (k : ℕ) (js : List ℕ) → front_of k js ++ back_of k js ≡ js
front_and_back k [] = refl
front_and_back k (j ∷ js) = elim (comes_after k j) as (λ v. cond v (j ∷ front_of k js) [] ++ cond v (back_of k js) (j ∷ js) ≡ j ∷ js) [
  | true ↦ ap (λ (r : List ℕ). j ∷ r) (front_and_back k js)
  | false ↦ refl
]

after_front : (k : ℕ) (js : List ℕ) → after_all k (front_of k js) ≡ true
after_front k [] = refl
after_front k (j ∷ js) = elim (comes_after k j) as (λ v. comes_after k j ≡ v → after_all k (cond v (j ∷ front_of k js) []) ≡ true) [
  | true ↦ λ e. rw e (after_front k js)
  | false ↦ λ e. refl
] refl

-- the orders below a number, each inserted at the position of its name
abbrev by_name : ℕ → List ℕ
by_name zero = []
by_name (suc k) = front_of k (by_name k) ++ k ∷ back_of k (by_name k)

-- each order comes before the orders that follow it
abbrev is_name_order : ℕ → Bool
is_name_order zero = true
is_name_order (suc k) = before_all k (back_of k (by_name k)) && is_name_order k

-- each order comes after the preceding ones
abbrev are_ascending : List ℕ → List ℕ → Bool
are_ascending done [] = true
are_ascending done (k ∷ ks) = after_all k done && are_ascending (done ++ k ∷ []) ks

by_name_is : by_name 30 ≡ orders_by_name
unfolding digits
by_name_is = refl

names_in_place : is_name_order 30 ≡ true
unfolding digits
names_in_place = refl

order_names_ascend : are_ascending [] orders_by_name ≡ true
unfolding digits
order_names_ascend = refl

-- ---- helpers

and_parts : (a b : Bool) → (a && b) ≡ true → (a ≡ true) × (b ≡ true)
and_parts true b h = (refl, h)
and_parts false b h = absurd cc

is_less : (o : Ordering) → is_lt o ≡ true → o ≡ Less
is_less Less e = refl
is_less Equal e = absurd cc
is_less Greater e = absurd cc

is_greater : (o : Ordering) → is_gt o ≡ true → o ≡ Greater
is_greater Less e = absurd cc
is_greater Equal e = absurd cc
is_greater Greater e = refl

all_filter : (p : CellNumber → Bool) (cells : List CellNumber) → AllByRecursion IsCell cells → AllByRecursion IsCell (filter p cells)
all_filter p [] h = tt
all_filter p (c ∷ cells) h = elim (p c) as (λ v. AllByRecursion IsCell (cond v (c ∷ filter p cells) (filter p cells))) [ true ↦ (h.0, all_filter p cells h.1) | false ↦ all_filter p cells h.1 ]

-- ---- members of a list of orders

abbrev value_of : List CellNumber → ℕ → Data
value_of cells k = array (items_of (data_at k cells))

-- the members of some orders, followed by these
abbrev before_members : List CellNumber → Option ℕ → List ℕ → Members → Members
before_members cells empty_order [] ms = ms
before_members cells empty_order (k ∷ ks) ms =
    cond (is_name k empty_order (data_at k cells)) (member (decimal k) (value_of cells k) (before_members cells empty_order ks ms)) (before_members cells empty_order ks ms)

module _ (cells : List CellNumber) (empty_order : Option ℕ) where
  abbrev named : ℕ → Bool
  named k = is_name k empty_order (data_at k cells)

  along_append : (pre post : List ℕ) → members_in_order cells empty_order (pre ++ post) ≡ before_members cells empty_order pre (members_in_order cells empty_order post)
  along_append [] post = refl
  along_append (k ∷ pre) post = ap (λ (r : Members). cond (named k) (member (decimal k) (value_of cells k) r) r) (along_append pre post)

  -- a name that is less than all others comes first
  put_first : (k : ℕ) (d : Data) (js : List ℕ) → before_all k js ≡ true → put (decimal k) d (members_in_order cells empty_order js) ≡ member (decimal k) d (members_in_order cells empty_order js)
  put_first k d [] e = refl
  put_first k d (j ∷ js) e =
      let both = and_parts (comes_before k j) (before_all k js) e in
      elim (named j) as (λ v. put (decimal k) d (cond v (member (decimal j) (value_of cells j) (members_in_order cells empty_order js)) (members_in_order cells empty_order js)) ≡ member (decimal k) d (cond v (member (decimal j) (value_of cells j) (members_in_order cells empty_order js)) (members_in_order cells empty_order js))) [
        | true ↦ rw (is_less (slice_cmp nat_cmp (decimal k) (decimal j)) both.0) refl
        | false ↦ put_first k d js both.1
      ]

  -- a name that is greater than all others comes last
  put_behind : (k : ℕ) (d : Data) (js : List ℕ) (ms : Members) → after_all k js ≡ true → put (decimal k) d (before_members cells empty_order js ms) ≡ before_members cells empty_order js (put (decimal k) d ms)
  put_behind k d [] ms e = refl
  put_behind k d (j ∷ js) ms e =
      let both = and_parts (comes_after k j) (after_all k js) e in
      let more = put_behind k d js ms both.1 in
      elim (named j) as (λ v. put (decimal k) d (cond v (member (decimal j) (value_of cells j) (before_members cells empty_order js ms)) (before_members cells empty_order js ms)) ≡ cond v (member (decimal j) (value_of cells j) (before_members cells empty_order js (put (decimal k) d ms))) (before_members cells empty_order js (put (decimal k) d ms))) [
        | true ↦ rw (is_greater (slice_cmp nat_cmp (decimal k) (decimal j)) both.0) (ap (λ (r : Members). member (decimal j) (value_of cells j) r) more)
        | false ↦ more
      ]

  -- the members of one more order
  one_more : (k : ℕ) (pre post : List ℕ) → after_all k pre ≡ true → before_all k post ≡ true → with_order k empty_order (data_at k cells) (members_in_order cells empty_order (pre ++ post)) ≡ members_in_order cells empty_order (pre ++ k ∷ post)
  one_more k pre post after before =
      ap (with_order k empty_order (data_at k cells)) (along_append pre post)
      ∙ elim (named k) as (λ v. cond v (put (decimal k) (value_of cells k) (before_members cells empty_order pre (members_in_order cells empty_order post))) (before_members cells empty_order pre (members_in_order cells empty_order post)) ≡ before_members cells empty_order pre (cond v (member (decimal k) (value_of cells k) (members_in_order cells empty_order post)) (members_in_order cells empty_order post))) [
        | true ↦ put_behind k (value_of cells k) pre (members_in_order cells empty_order post) after ∙ ap (before_members cells empty_order pre) (put_first k (value_of cells k) post before)
        | false ↦ refl
      ]
      ∙ sym (along_append pre (k ∷ post))

  below_by_name : (n : ℕ) → is_name_order n ≡ true → members_below cells empty_order n ≡ members_in_order cells empty_order (by_name n)
  below_by_name zero e = refl
  below_by_name (suc k) e =
      let both = and_parts (before_all k (back_of k (by_name k))) (is_name_order k) e in
      ap (with_order k empty_order (data_at k cells)) (below_by_name k both.1 ∙ ap (members_in_order cells empty_order) (sym (front_and_back k (by_name k))))
      ∙ one_more k (front_of k (by_name k)) (back_of k (by_name k)) (after_front k (by_name k)) both.0

  -- the members of the definition are those of the orders sorted by name
  pub members_by_name : members_below cells empty_order 30 ≡ members_in_order cells empty_order orders_by_name
  members_by_name = below_by_name 30 names_in_place ∙ ap (members_in_order cells empty_order) by_name_is

  -- ---- numbers, and parsing their tokens

  items_numbers : (xs : List CellNumber) → AllByRecursion IsCell xs → ItemsHaveNumbers (items_outline (items_of (map datum xs)))
  items_numbers [] h = tt
  items_numbers (c ∷ xs) h = (IsNumber-decimal c.index (omega (arith, (h.0).index_in_range, cells_fit c.order (h.0).order_in_range)), items_numbers xs h.1)

  -- the text of each number is a number
  pub along_numbers : (ks : List ℕ) → AllByRecursion IsCell cells → MembersHaveNumbers (members_outline (members_in_order cells empty_order ks))
  along_numbers [] h = tt
  along_numbers (k ∷ ks) h =
      let rest = along_numbers ks h in
      elim (named k) as (λ v. MembersHaveNumbers (members_outline (cond v (member (decimal k) (value_of cells k) (members_in_order cells empty_order ks)) (members_in_order cells empty_order ks)))) [
        | true ↦ (items_numbers (filter (λ c. eqb c.order k) cells) (all_filter (λ c. eqb c.order k) cells h), rest)
        | false ↦ rest
      ]

  items_back : (xs : List CellNumber) → AllByRecursion IsCell xs → of_items (items_outline (items_of (map datum xs))) ≡ Some (items_of (map datum xs))
  items_back [] h = refl
  items_back (c ∷ xs) h = rw (number_of-decimal c.index (omega (arith, (h.0).index_in_range, cells_fit c.order (h.0).order_in_range)), items_back xs h.1) refl

  value_back : (k : ℕ) → AllByRecursion IsCell cells → of_json (outline (value_of cells k)) ≡ Some (value_of cells k)
  value_back k h = ap (option_map array) (items_back (filter (λ c. eqb c.order k) cells) (all_filter (λ c. eqb c.order k) cells h))

  put_last : (k : ℕ) (done : List ℕ) → after_all k done ≡ true → named k ≡ true → put (decimal k) (value_of cells k) (members_in_order cells empty_order done) ≡ members_in_order cells empty_order (done ++ k ∷ [])
  put_last k done after is =
      ap (λ (js : List ℕ). put (decimal k) (value_of cells k) (members_in_order cells empty_order js)) (sym (append-nil done)) ∙ ap (λ (m : Members). put (decimal k) (value_of cells k) m) (along_append done []) ∙ put_behind k (value_of cells k) done no_members after
      ∙ sym (along_append done (k ∷ []) ∙ ap (before_members cells empty_order done) (rw is refl))

  no_last : (k : ℕ) (done : List ℕ) → named k ≡ false → members_in_order cells empty_order done ≡ members_in_order cells empty_order (done ++ k ∷ [])
  no_last k done none =
      ap (members_in_order cells empty_order) (sym (append-nil done)) ∙ along_append done [] ∙ sym (along_append done (k ∷ []) ∙ ap (before_members cells empty_order done) (rw none refl))

  along_back : (done ks : List ℕ) → AllByRecursion IsCell cells → are_ascending done ks ≡ true → of_members (members_outline (members_in_order cells empty_order ks)) (members_in_order cells empty_order done) ≡ Some (members_in_order cells empty_order (done ++ ks))
  along_back done [] h e = ap (λ (js : List ℕ). Some (members_in_order cells empty_order js)) (sym (append-nil done))
  along_back done (k ∷ ks) h e =
      let both = and_parts (after_all k done) (are_ascending (done ++ k ∷ []) ks) e in
      let more = along_back (done ++ k ∷ []) ks h both.1 ∙ ap (λ (js : List ℕ). Some (members_in_order cells empty_order js)) (append_assoc done (k ∷ []) ks) in
      elim (named k) as (λ v. named k ≡ v → of_members (members_outline (cond v (member (decimal k) (value_of cells k) (members_in_order cells empty_order ks)) (members_in_order cells empty_order ks))) (members_in_order cells empty_order done) ≡ Some (members_in_order cells empty_order (done ++ k ∷ ks))) [
        | true ↦ λ is.
            ap (option_and_then (λ d. of_members (members_outline (members_in_order cells empty_order ks)) (put (decimal k) d (members_in_order cells empty_order done)))) (value_back k h)
            ∙ ap (of_members (members_outline (members_in_order cells empty_order ks))) (put_last k done both.0 is) ∙ more
        | false ↦ λ none. ap (of_members (members_outline (members_in_order cells empty_order ks))) (no_last k done none) ∙ more
      ] refl

  pub members_back : AllByRecursion IsCell cells → of_members (members_outline (members_in_order cells empty_order orders_by_name)) no_members ≡ Some (members_in_order cells empty_order orders_by_name)
  members_back h = along_back [] orders_by_name h order_names_ascend
