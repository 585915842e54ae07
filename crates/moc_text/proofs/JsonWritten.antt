-- A written JSON text represents the set that was written.
use Rattle.std.proofs.Common.{Less, Equal, Greater, ◌≡◌, ℕ, zero, suc, ◌+◌, ◌<◌, ◌≤◌, Bool, true, false, cond, ◌||◌, eqb, ltb, List, [], ◌∷◌, ◌++◌, length, map, max, Option, Some, None, refl, sym, ap, ap₂, subst, ◌∙◌, append-nil, arith, inl, inr}
use Rattle.std.specs.Prelude.{decimal, option_map, option_and_then, IsUtf8}
use Rattle.std.specs.Ordering.{nat_cmp, match_ordering}
use Rattle.std.specs.Cmp.Lexicographic.{slice_cmp}
use Rattle.std.specs.FinSet as set
use Rattle.std.specs.List.{filter, range_with_len, AllByRecursion}
use Rattle.std.specs.Option.{ForSome, option_or}
use Rattle.std.specs.Str.Parse.{digits_value}
use Rattle.std.proofs.lemmas.Bool.{cases_order, cases_lt, eq-eqb, ne_eqb, eqb-true, lt-ltb, le-ltb, ltb-false}
use Rattle.std.specs.Cmp.{nat_cmp_total}
use Rattle.std.proofs.lemmas.Map.Lookups.{exact_bytes}
use Rattle.json.specs.Json as json
use Rattle.json.specs.Token.{Token}
use Rattle.json.specs.Lex.{tokens}
use Rattle.json.specs.Print.{print}
use Rattle.json.specs.Tree as tree
use Rattle.json.specs.Tree.{json_tokens}
use Rattle.json.proofs.Printed.Tokens.{tokens-print}
use Rattle.json.proofs.Printed.Trees.{ArePrintable-json_tokens, value-json_tokens}
use Rattle.serde_json.specs.Data.{Data, null, boolean, number, string, array, object, Items, no_items, item, Members, no_members, member, put, depth, items_depth, members_depth}
use Rattle.serde_json.specs.Find.{as_array}
use Rattle.serde_json.specs.View.{items_of}
use Rattle.serde_json.specs.Read.{read, of_json, max_depth}
use Rattle.serde_json.specs.Written.{outline, items_outline, members_outline, compact_text}
use Rattle.serde_json.proofs.Texts.{print-outline}
use Rattle.moc_sphere.specs.CellNumber.{CellNumber, cell_number, cell_count, IsCell}
use Rattle.moc_lists.specs.RangeList.{NumberSet}
use Rattle.moc_lists.specs.Lemmas.Members.{same_members}
use Rattle.moc_ranges.specs.Operations.{pixels, IsWithin}
use Rattle.moc_ranges.specs.Cells.{span, pixels_of, is_cell_of, cells_below, cells_of}
use Rattle.moc_ranges.specs.Lemmas.Cells.{cells_are}
use Rattle.moc_ranges.specs.Lemmas.{cells_fill}
use Rattle.moc_text.specs.Ascii.{deeper, IsNumber}
use Rattle.moc_text.specs.AsciiText.{IsTooCoarse, deepest_cell, deepest_written, stated_if_deeper}
use Rattle.moc_text.proofs.Deepest.{HasDeeper}
use Rattle.moc_text.specs.JsonFormat.{order_of_name, items_pixels, elements_error, array_pixels, name_error}
use Rattle.moc_text.specs.JsonFormat.{members_pixels, members_error, deepest_name, RepresentsJson}
use Rattle.moc_text.specs.JsonText.{datum, data_at, is_name, members_below, json_value, json_text}
use Rattle.moc_text.specs.Private.JsonWriting.{members_in_order, orders_by_name}
use Rattle.moc_text.specs.Private.AsciiWriting.{AreAscending}
use Rattle.moc_text.proofs.JsonNames.{along_numbers, members_by_name, members_back, with_order}
use Rattle.moc_text.proofs.Written.{IsNumber-decimal, value-decimal, not_deeper, stated_is_deepest}

-- ---- the cells of a set are in ascending order of their orders

ascending_less : (j k : ℕ) (cells : List CellNumber) → j ≤ k → AreAscending k cells → AreAscending j cells
ascending_less j k [] le h = tt
ascending_less j k (c ∷ cells) le h = (omega (arith, h.0), h.1)

ascending_append : (j k : ℕ) (xs ys : List CellNumber) → AreAscending j xs → AllByRecursion (λ c. c.order ≤ k) xs → AreAscending k ys → j ≤ k → AreAscending j (xs ++ ys)
ascending_append j k [] ys h all more le = ascending_less j k ys le more
ascending_append j k (x ∷ xs) ys h all more le = (h.0, ascending_append x.order k xs ys h.1 all.1 more all.0)

cells_of_order_ascend : (k from n : ℕ) → AreAscending k (map (cell_number k) (range_with_len from n))
cells_of_order_ascend k from zero = tt
cells_of_order_ascend k from (suc n) = (omega arith, cells_of_order_ascend k (from + 1) n)

order_within : (k m from n : ℕ) → k ≤ m → AllByRecursion (λ c. c.order ≤ m) (map (cell_number k) (range_with_len from n))
order_within k m from zero le = tt
order_within k m from (suc n) le = (le, order_within k m (from + 1) n le)

all_append : (P : CellNumber → Type 0) (xs ys : List CellNumber) → AllByRecursion P xs → AllByRecursion P ys → AllByRecursion P (xs ++ ys)
all_append P [] ys h k = k
all_append P (x ∷ xs) ys h k = (h.0, all_append P xs ys h.1 k)

below_within : (n m : ℕ) → n ≤ suc m → AllByRecursion (λ c. c.order ≤ m) (cells_below n)
unfolding cells_below
below_within zero m le = tt
below_within (suc k) m le = all_append (λ c. c.order ≤ m) (cells_below k) _ (below_within k m (omega arith)) (order_within k m 0 (cell_count k) (omega arith))

cells_below_ascend : (n : ℕ) → AreAscending 0 (cells_below n)
unfolding cells_below
cells_below_ascend zero = tt
cells_below_ascend (suc k) = ascending_append 0 k (cells_below k) _ (cells_below_ascend k) (below_within k k (omega arith)) (cells_of_order_ascend k 0 (cell_count k)) (omega arith)

ascending_filter : (p : CellNumber → Bool) (j : ℕ) (cells : List CellNumber) → AreAscending j cells → AreAscending j (filter p cells)
ascending_filter p j [] h = tt
ascending_filter p j (c ∷ cells) h =
    let rest = ascending_filter p c.order cells h.1 in
    elim (p c) as (λ v. AreAscending j (cond v (c ∷ filter p cells) (filter p cells))) [ true ↦ (h.0, rest) | false ↦ ascending_less j c.order (filter p cells) h.0 rest ]

pub cells_ascend : (a : NumberSet) → AreAscending 0 (cells_of a)
unfolding cells_of
cells_ascend a = ascending_filter (is_cell_of a) 0 (cells_below 30) (cells_below_ascend 30)

-- ---- properties of each member

-- the name of an order below n, and its cells
record IsMember (cells : List CellNumber) (n : ℕ) (name : List ℕ) (d : Data) : Type 0 where
  order : ℕ
  below : order < n
  named : name ≡ decimal order
  has : d ≡ array (items_of (data_at order cells))

abbrev AreMembers : List CellNumber → ℕ → Members → Type 0
AreMembers cells n no_members = Unit {0}
AreMembers cells n (member name d ms) = IsMember cells n name d × AreMembers cells n ms

members_of_next_order : (cells : List CellNumber) (n : ℕ) (ms : Members) → AreMembers cells n ms → AreMembers cells (suc n) ms
members_of_next_order cells n no_members h = tt
members_of_next_order cells n (member name d ms) h = (record { order = (h.0).order; below = omega (arith, (h.0).below); named = (h.0).named; has = (h.0).has }, members_of_next_order cells n ms h.1)

members_after_put : (cells : List CellNumber) (n : ℕ) (name : List ℕ) (d : Data) (ms : Members) → IsMember cells n name d → AreMembers cells n ms → AreMembers cells n (put name d ms)
members_after_put cells n name d no_members is h = (is, tt)
members_after_put cells n name d (member l e ms) is h =
    elim (slice_cmp nat_cmp name l) as (λ o. slice_cmp nat_cmp name l ≡ o → AreMembers cells n (match_ordering o (member name d (member l e ms)) (member l d ms) (member l e (put name d ms)))) [
      | Less ↦ λ o. (is, h)
      | Equal ↦ λ o.
          let same : name ≡ l = exact_bytes name l o in
          (subst (λ (x : List ℕ). IsMember cells n x d) same is, h.1)
      | Greater ↦ λ o. (h.0, members_after_put cells n name d ms is h.1)
    ] refl

new_member : (cells : List CellNumber) (k : ℕ) → IsMember cells (suc k) (decimal k) (array (items_of (data_at k cells)))
new_member cells k = record { order = k; below = omega arith; named = refl; has = refl }

with_order_members : (cells : List CellNumber) (stated : Option ℕ) (k : ℕ) (ms : Members) → AreMembers cells k ms → AreMembers cells (suc k) (with_order k stated (data_at k cells) ms)
with_order_members cells stated k ms h =
    elim (is_name k stated (data_at k cells)) as (λ v. AreMembers cells (suc k) (cond v (put (decimal k) (array (items_of (data_at k cells))) ms) ms)) [
      | true ↦ members_after_put cells (suc k) (decimal k) (array (items_of (data_at k cells))) ms (new_member cells k) (members_of_next_order cells k ms h)
      | false ↦ members_of_next_order cells k ms h
    ]

members_are : (cells : List CellNumber) (stated : Option ℕ) (n : ℕ) → AreMembers cells n (members_below cells stated n)
members_are cells stated zero = tt
members_are cells stated (suc k) = with_order_members cells stated k (members_below cells stated k) (members_are cells stated k)

-- ---- the depth is two

items_flat : (cells : List CellNumber) → items_depth (items_of (map datum cells)) ≡ 0
items_flat [] = refl
items_flat (c ∷ cells) = ap (λ n. max 0 n) (items_flat cells)

members_flat : (cells : List CellNumber) (n : ℕ) (ms : Members) → AreMembers cells n ms → members_depth ms ≤ 1
members_flat cells n no_members h = omega arith
members_flat cells n (member name d ms) h =
    let here : depth d ≡ 1 = ap depth (h.0).has ∙ ap (λ n. suc n) (items_flat (filter (λ c. eqb c.order (h.0).order) cells)) in
    omega (arith, here, members_flat cells n ms h.1)

json_depth_bounded : (a : NumberSet) (stated : Option ℕ) → depth (json_value a stated) ≤ max_depth
unfolding json_value
json_depth_bounded a stated =
    let empty_order = stated_if_deeper (deepest_cell (cells_of a)) stated in
    omega (arith, members_flat (cells_of a) 30 (members_below (cells_of a) empty_order 30) (members_are (cells_of a) empty_order 30))

-- ---- the set that the members represent

abbrev of_order : ℕ → List CellNumber → List CellNumber
of_order k cells = filter (λ c. eqb c.order k) cells

order_cells_without_error : (k name place : ℕ) (cells : List CellNumber) → AllByRecursion IsCell cells → elements_error k name place (items_of (map datum (of_order k cells))) ≡ None
order_cells_without_error k name place [] h = refl
order_cells_without_error k name place (c ∷ cells) h =
    elim (eqb c.order k) as (λ v. eqb c.order k ≡ v → elements_error k name place (items_of (map datum (cond v (c ∷ of_order k cells) (of_order k cells)))) ≡ None) [
      | true ↦ λ e.
          let is : c.order ≡ k = eqb-true c.order k e in
          let fits : ltb c.index (cell_count k) ≡ true = lt-ltb c.index (cell_count k) (subst (λ j. c.index < cell_count j) is (h.0).index_in_range) in
          rw fits (order_cells_without_error k name (place + 1) cells h.1)
      | false ↦ λ e. order_cells_without_error k name place cells h.1
    ] refl

-- whether a pixel is in one of the cells
abbrev in_cells : ℕ → List CellNumber → Bool
in_cells q [] = false
in_cells q (c ∷ cells) = set.contains (span c.order c.index) q || in_cells q cells

contains-pixels_of : (q : ℕ) (cells : List CellNumber) → set.contains (pixels_of cells) q ≡ in_cells q cells
unfolding pixels_of
contains-pixels_of q [] = set.contains-empty nat_cmp q
contains-pixels_of q (c ∷ cells) = set.contains-union nat_cmp_total (span c.order c.index) (pixels_of cells) q ∙ ap (λ b. set.contains (span c.order c.index) q || b) (contains-pixels_of q cells)

order_has : (q k : ℕ) (cells : List CellNumber) → set.contains (items_pixels k (items_of (map datum (of_order k cells)))) q ≡ in_cells q (of_order k cells)
order_has q k [] = set.contains-empty nat_cmp q
order_has q k (c ∷ cells) =
    elim (eqb c.order k) as (λ v. eqb c.order k ≡ v → set.contains (items_pixels k (items_of (map datum (cond v (c ∷ of_order k cells) (of_order k cells))))) q ≡ in_cells q (cond v (c ∷ of_order k cells) (of_order k cells))) [
      | true ↦ λ e.
          set.contains-union nat_cmp_total (span k c.index) (items_pixels k (items_of (map datum (of_order k cells)))) q
          ∙ ap (λ b. set.contains (span k c.index) q || b) (order_has q k cells)
          ∙ ap (λ (j : ℕ). set.contains (span j c.index) q || in_cells q (of_order k cells)) (sym (eqb-true c.order k e))
      | false ↦ λ e. order_has q k cells
    ] refl

name_is : (k : ℕ) → k < 30 → order_of_name (decimal k) ≡ Some k
name_is k lt =
    let n : IsNumber (decimal k) = IsNumber-decimal k (omega arith) in
    let some : eqb (length (decimal k)) 0 ≡ false = ne_eqb (length (decimal k)) 0 (λ e. omega (arith, n.0, e)) in
    rw (some, n.1, value-decimal k (omega arith), le-ltb 29 k (omega arith)) refl

abbrev has : ℕ → ℕ → List CellNumber → Bool
has q k cells = in_cells q (of_order k cells)

-- whether a pixel is in the cells of a name
abbrev named_has : ℕ → List CellNumber → Option ℕ → Bool
named_has q cells None = false
named_has q cells (Some k) = has q k cells

abbrev any_member_contains : ℕ → List CellNumber → Members → Bool
any_member_contains q cells no_members = false
any_member_contains q cells (member name d ms) = named_has q cells (order_of_name name) || any_member_contains q cells ms

record Say (cells : List CellNumber) (ms : Members) (name : ℕ) : Type 0 where
  without_error : members_error name ms ≡ None
  contain : (q : ℕ) → set.contains (members_pixels ms) q ≡ any_member_contains q cells ms

members_represent_cells : (cells : List CellNumber) (n : ℕ) (ms : Members) (name : ℕ) → n ≤ 30 → AllByRecursion IsCell cells → AreMembers cells n ms → Say cells ms name
members_represent_cells cells n no_members name le all h = record { without_error = refl; contain = λ q. set.contains-empty nat_cmp q }
members_represent_cells cells n (member text d ms) name le all h =
    let later = members_represent_cells cells n ms (name + 1) le all h.1 in
    let k = (h.0).order in
    let o : order_of_name text ≡ Some k = ap order_of_name (h.0).named ∙ name_is k (omega (arith, (h.0).below)) in
    let items : as_array d ≡ Some (items_of (data_at k cells)) = ap as_array (h.0).has in
    let here : name_error name (order_of_name text) (as_array d) ≡ None = rw (o, items) (order_cells_without_error k name 0 cells all) in
    let pixels : array_pixels (order_of_name text) (as_array d) ≡ items_pixels k (items_of (data_at k cells)) = rw (o, items) refl in
    record {
      without_error = ap (λ f. option_or f (members_error (name + 1) ms)) here ∙ later.without_error;
      contain = λ q.
          set.contains-union nat_cmp_total (array_pixels (order_of_name text) (as_array d)) (members_pixels ms) q
          ∙ ap (λ (a : NumberSet). set.contains a q || set.contains (members_pixels ms) q) pixels
          ∙ ap (λ b. b || set.contains (members_pixels ms) q) (order_has q k cells)
          ∙ ap (λ b. has q k cells || b) (later.contain q)
          ∙ ap (λ (x : Option ℕ). named_has q cells x || any_member_contains q cells ms) (sym o);
    }

-- ---- one name among the others

or_swap : (a b c : Bool) → (a || (b || c)) ≡ (b || (a || c))
or_swap true true c = refl
or_swap true false c = refl
or_swap false true c = refl
or_swap false false c = refl

deeper_swap : (a b c : Option ℕ) → deeper a (deeper b c) ≡ deeper b (deeper a c)
deeper_swap None b c = refl
deeper_swap (Some i) None c = refl
deeper_swap (Some i) (Some j) None = ap (λ (n : ℕ). Some n) (omega arith)
deeper_swap (Some i) (Some j) (Some k) = ap (λ (n : ℕ). Some n) (omega arith)

order_name_is_unique : (j k : ℕ) → j < 30 → k < 30 → decimal j ≡ decimal k → j ≡ k
order_name_is_unique j k lj lk e = sym (value-decimal j (omega arith)) ∙ ap (digits_value 10) e ∙ value-decimal k (omega arith)

contains_after_put : (q : ℕ) (cells : List CellNumber) (k : ℕ) (d : Data) (ms : Members) → k < 30 → AreMembers cells k ms → any_member_contains q cells (put (decimal k) d ms) ≡ (has q k cells || any_member_contains q cells ms)
contains_after_put q cells k d no_members lt h = ap (λ (x : Option ℕ). named_has q cells x || false) (name_is k lt)
contains_after_put q cells k d (member l e ms) lt h =
    elim (slice_cmp nat_cmp (decimal k) l) as (λ o. slice_cmp nat_cmp (decimal k) l ≡ o → any_member_contains q cells (match_ordering o (member (decimal k) d (member l e ms)) (member l d ms) (member l e (put (decimal k) d ms))) ≡ (has q k cells || (named_has q cells (order_of_name l) || any_member_contains q cells ms))) [
      | Less ↦ λ o. ap (λ (x : Option ℕ). named_has q cells x || (named_has q cells (order_of_name l) || any_member_contains q cells ms)) (name_is k lt)
      | Equal ↦ λ o. absurd (omega (arith, (h.0).below, order_name_is_unique k (h.0).order lt (omega (arith, (h.0).below)) (exact_bytes (decimal k) l o ∙ (h.0).named)))
      | Greater ↦ λ o. ap (λ b. named_has q cells (order_of_name l) || b) (contains_after_put q cells k d ms lt h.1) ∙ or_swap (named_has q cells (order_of_name l)) (has q k cells) (any_member_contains q cells ms)
    ] refl

deepest_name_after_put : (cells : List CellNumber) (k : ℕ) (d : Data) (ms : Members) → k < 30 → AreMembers cells k ms → deepest_name (put (decimal k) d ms) ≡ deeper (Some k) (deepest_name ms)
deepest_name_after_put cells k d no_members lt h = ap (λ (x : Option ℕ). deeper x None) (name_is k lt)
deepest_name_after_put cells k d (member l e ms) lt h =
    elim (slice_cmp nat_cmp (decimal k) l) as (λ o. slice_cmp nat_cmp (decimal k) l ≡ o → deepest_name (match_ordering o (member (decimal k) d (member l e ms)) (member l d ms) (member l e (put (decimal k) d ms))) ≡ deeper (Some k) (deeper (order_of_name l) (deepest_name ms))) [
      | Less ↦ λ o. ap (λ (x : Option ℕ). deeper x (deeper (order_of_name l) (deepest_name ms))) (name_is k lt)
      | Equal ↦ λ o. absurd (omega (arith, (h.0).below, order_name_is_unique k (h.0).order lt (omega (arith, (h.0).below)) (exact_bytes (decimal k) l o ∙ (h.0).named)))
      | Greater ↦ λ o. ap (deeper (order_of_name l)) (deepest_name_after_put cells k d ms lt h.1) ∙ deeper_swap (order_of_name l) (Some k) (deepest_name ms)
    ] refl

-- ---- all pixels

no_cell_contains : (q : ℕ) (cells : List CellNumber) → map datum cells ≡ [] → in_cells q cells ≡ false
no_cell_contains q [] e = refl
no_cell_contains q (c ∷ cells) e = absurd cc

unnamed_empty : (k : ℕ) (stated : Option ℕ) (ds : List Data) → is_name k stated ds ≡ false → ds ≡ []
unnamed_empty k stated [] h = refl
unnamed_empty k stated (d ∷ ds) h = absurd cc

with_order_has : (q : ℕ) (cells : List CellNumber) (stated : Option ℕ) (k : ℕ) (ms : Members) → k < 30 → AreMembers cells k ms → any_member_contains q cells (with_order k stated (data_at k cells) ms) ≡ (has q k cells || any_member_contains q cells ms)
with_order_has q cells stated k ms lt h =
    elim (is_name k stated (data_at k cells)) as (λ v. is_name k stated (data_at k cells) ≡ v → any_member_contains q cells (cond v (put (decimal k) (array (items_of (data_at k cells))) ms) ms) ≡ (has q k cells || any_member_contains q cells ms)) [
      | true ↦ λ e. contains_after_put q cells k (array (items_of (data_at k cells))) ms lt h
      | false ↦ λ e. ap (λ b. b || any_member_contains q cells ms) (sym (no_cell_contains q (of_order k cells) (unnamed_empty k stated (data_at k cells) e)))
    ] refl

abbrev cell_below_contains : ℕ → ℕ → List CellNumber → Bool
cell_below_contains q n cells = in_cells q (filter (λ c. ltb c.order n) cells)

next_order : (q k : ℕ) (cells : List CellNumber) → (has q k cells || cell_below_contains q k cells) ≡ cell_below_contains q (suc k) cells
next_order q k [] = refl
next_order q k (c ∷ cells) =
    let rest = next_order q k cells in
    elim (cases_order c.order k) [
      | inl e ↦ rw (eq-eqb c.order k e, le-ltb c.order k (omega (arith, e)), lt-ltb c.order (suc k) (omega (arith, e))) (regroup (set.contains (span c.order c.index) q) (has q k cells) (cell_below_contains q k cells) ∙ ap (λ b. set.contains (span c.order c.index) q || b) rest)
      | inr (inl l) ↦ rw (ne_eqb c.order k (λ e. omega (arith, l, e)), lt-ltb c.order k l, lt-ltb c.order (suc k) (omega (arith, l))) (or_swap (has q k cells) (set.contains (span c.order c.index) q) (cell_below_contains q k cells) ∙ ap (λ b. set.contains (span c.order c.index) q || b) rest)
      | inr (inr l) ↦ rw (ne_eqb c.order k (λ e. omega (arith, l, e)), le-ltb c.order k (omega (arith, l)), le-ltb c.order (suc k) (omega (arith, l))) rest
    ]
  where
    regroup : (a b c : Bool) → ((a || b) || c) ≡ (a || (b || c))
    regroup true b c = refl
    regroup false b c = refl

no_cell_below_zero : (q : ℕ) (cells : List CellNumber) → false ≡ cell_below_contains q 0 cells
no_cell_below_zero q [] = refl
no_cell_below_zero q (c ∷ cells) = no_cell_below_zero q cells ∙ sym (rw (le-ltb c.order 0 (omega arith)) refl)

members_have : (q : ℕ) (cells : List CellNumber) (stated : Option ℕ) (n : ℕ) → n ≤ 30 → any_member_contains q cells (members_below cells stated n) ≡ cell_below_contains q n cells
members_have q cells stated zero le = no_cell_below_zero q cells
members_have q cells stated (suc k) le =
    with_order_has q cells stated k (members_below cells stated k) (omega arith) (members_are cells stated k)
    ∙ ap (λ b. has q k cells || b) (members_have q cells stated k (omega arith)) ∙ next_order q k cells

all_below : (q : ℕ) (cells : List CellNumber) → AllByRecursion IsCell cells → cell_below_contains q 30 cells ≡ in_cells q cells
all_below q [] h = refl
all_below q (c ∷ cells) h = rw (lt-ltb c.order 30 (omega (arith, (h.0).order_in_range))) (ap (λ b. set.contains (span c.order c.index) q || b) (all_below q cells h.1))

-- ---- the deepest name

with_order_deepest : (cells : List CellNumber) (stated : Option ℕ) (k : ℕ) (ds : List Data) (ms : Members) → k < 30 → AreMembers cells k ms → deepest_name (with_order k stated ds ms) ≡ cond (is_name k stated ds) (deeper (Some k) (deepest_name ms)) (deepest_name ms)
with_order_deepest cells stated k ds ms lt h =
    elim (is_name k stated ds) as (λ v. deepest_name (cond v (put (decimal k) (array (items_of ds)) ms) ms) ≡ cond v (deeper (Some k) (deepest_name ms)) (deepest_name ms)) [ true ↦ deepest_name_after_put cells k (array (items_of ds)) ms lt h | false ↦ refl ]

abbrev Below : ℕ → Option ℕ → Type 0
Below n None = Unit {0}
Below n (Some k) = k < n

name_below : (cells : List CellNumber) (n : ℕ) (ms : Members) → n ≤ 30 → AreMembers cells n ms → Below n (deepest_name ms)
name_below cells n no_members le h = tt
name_below cells n (member text d ms) le h =
    let k = (h.0).order in
    let o : Some k ≡ order_of_name text = sym (ap order_of_name (h.0).named ∙ name_is k (omega (arith, (h.0).below))) in
    subst (λ (x : Option ℕ). Below n (deeper x (deepest_name ms))) o (both_below k (deepest_name ms) (h.0).below (name_below cells n ms le h.1))
  where
    both_below : (k : ℕ) (x : Option ℕ) → k < n → Below n x → Below n (deeper (Some k) x)
    both_below k None a b = a
    both_below k (Some j) a b = omega arith

greatest : (k : ℕ) (x : Option ℕ) → Below k x → deeper (Some k) x ≡ Some k
greatest k None h = refl
greatest k (Some j) h = ap (λ (n : ℕ). Some n) (omega arith)

next_deepest : (cells : List CellNumber) (stated : Option ℕ) (k : ℕ) → k < 30 → deepest_name (members_below cells stated (suc k)) ≡ cond (is_name k stated (data_at k cells)) (Some k) (deepest_name (members_below cells stated k))
next_deepest cells stated k lt =
    let ms = members_below cells stated k in
    with_order_deepest cells stated k (data_at k cells) ms lt (members_are cells stated k)
    ∙ ap (λ (x : Option ℕ). cond (is_name k stated (data_at k cells)) x (deepest_name ms)) (greatest k (deepest_name ms) (name_below cells k ms (omega arith) (members_are cells stated k)))

abbrev ParsesName : List CellNumber → Option ℕ → ℕ → Bool
ParsesName cells stated k = is_name k stated (data_at k cells)

-- if no order from m on is a name
deepest_name_unchanged : (cells : List CellNumber) (stated : Option ℕ) (m n : ℕ) → m ≤ n → n ≤ 30 → ((k : ℕ) → m ≤ k → ParsesName cells stated k ≡ false) → deepest_name (members_below cells stated n) ≡ deepest_name (members_below cells stated m)
deepest_name_unchanged cells stated m zero le lt none = let e : 0 ≡ m = omega arith in ap (λ n. deepest_name (members_below cells stated n)) e
deepest_name_unchanged cells stated m (suc k) le lt none = elim (cases_lt m (suc k)) [
  | inl l ↦ next_deepest cells stated k (omega arith) ∙ ap (λ b. cond b (Some k) (deepest_name (members_below cells stated k))) (none k (omega arith)) ∙ deepest_name_unchanged cells stated m k (omega arith) (omega arith) none
  | inr ge ↦ let e : suc k ≡ m = omega arith in ap (λ n. deepest_name (members_below cells stated n)) e
]

-- the deepest order that is a name
deepest_name_of_members : (cells : List CellNumber) (stated : Option ℕ) (m : ℕ) → m < 30 → ParsesName cells stated m ≡ true → ((k : ℕ) → suc m ≤ k → ParsesName cells stated k ≡ false) → deepest_name (members_below cells stated 30) ≡ Some m
deepest_name_of_members cells stated m lt here none =
    deepest_name_unchanged cells stated (suc m) 30 (omega arith) (omega arith) none ∙ next_deepest cells stated m lt ∙ ap (λ b. cond b (Some m) (deepest_name (members_below cells stated m))) here

no_cells : (k : ℕ) (cells : List CellNumber) → AllByRecursion (λ c. c.order < k) cells → data_at k cells ≡ []
no_cells k [] h = refl
no_cells k (c ∷ cells) h = rw (ne_eqb c.order k (λ e. omega (arith, h.0, e))) (no_cells k cells h.1)

no_name_in_empty : (k : ℕ) (stated : Option ℕ) (ds : List Data) → ds ≡ [] → is_name k stated [] ≡ false → is_name k stated ds ≡ false
no_name_in_empty k stated [] e s = s
no_name_in_empty k stated (d ∷ ds) e s = absurd cc

at_most : (k : ℕ) (cells : List CellNumber) → (HasDeeper cells (Some k) → ⊥) → AllByRecursion (λ c. c.order ≤ k) cells
at_most k [] h = tt
at_most k (c ∷ cells) h = (not_deeper c cells k h, at_most k cells (λ x. h (suc x.0, x.1, omega (arith, x.2), x.3, x.4)))

below_all : (k m : ℕ) (cells : List CellNumber) → m < k → AllByRecursion (λ c. c.order ≤ m) cells → AllByRecursion (λ c. c.order < k) cells
below_all k m [] lt h = tt
below_all k m (c ∷ cells) lt h = (omega (arith, h.0), below_all k m cells lt h.1)

stated_named : (k : ℕ) (ds : List Data) → is_name k (Some k) ds ≡ true
stated_named k (d ∷ ds) = refl
stated_named k [] = eq-eqb k k refl

deepest_stated : (cells : List CellNumber) (s : ℕ) → s < 30 → (HasDeeper cells (Some s) → ⊥) → deepest_name (members_below cells (Some s) 30) ≡ Some s
deepest_stated cells s lt fine =
    deepest_name_of_members cells (Some s) s lt (stated_named s (data_at s cells))
    (λ k le. no_name_in_empty k (Some s) (data_at k cells) (no_cells k cells (below_all k s cells (omega arith) (at_most s cells fine))) (ne_eqb k s (λ e. omega (arith, le, e))))

-- the deepest order of cells: some cell has it, and no cell is deeper
record IsDeepest (cells : List CellNumber) (m : ℕ) : Type 0 where
  small : m < 30
  named : is_name m None (data_at m cells) ≡ true
  most : AllByRecursion (λ c. c.order ≤ m) cells

abbrev DeepestIs : List CellNumber → Option ℕ → Type 0
DeepestIs cells None = cells ≡ []
DeepestIs cells (Some m) = IsDeepest cells m

named_more : (m : ℕ) (c : CellNumber) (cells : List CellNumber) → is_name m None (data_at m cells) ≡ true → is_name m None (data_at m (c ∷ cells)) ≡ true
named_more m c cells h = elim (eqb c.order m) as (λ v. is_name m None (map datum (cond v (c ∷ of_order m cells) (of_order m cells))) ≡ true) [ true ↦ refl | false ↦ h ]

name_of_first_cell : (m : ℕ) (c : CellNumber) (cells : List CellNumber) → c.order ≡ m → is_name m None (data_at m (c ∷ cells)) ≡ true
name_of_first_cell m c cells e = rw (eq-eqb c.order m e) refl

orders_below_larger : (m k : ℕ) (cells : List CellNumber) → m ≤ k → AllByRecursion (λ c. c.order ≤ m) cells → AllByRecursion (λ c. c.order ≤ k) cells
orders_below_larger m k [] le h = tt
orders_below_larger m k (c ∷ cells) le h = (omega (arith, h.0), orders_below_larger m k cells le h.1)

deepest_of : (cells : List CellNumber) → AllByRecursion IsCell cells → DeepestIs cells (deepest_cell cells)
deepest_of [] h = refl
deepest_of (c ∷ cells) h = with_cell (deepest_cell cells) (deepest_of cells h.1)
  where
    with_cell : (x : Option ℕ) → DeepestIs cells x → DeepestIs (c ∷ cells) (deeper (Some c.order) x)
    with_cell None e = record {
      small = omega (arith, (h.0).order_in_range);
      named = name_of_first_cell c.order c cells refl;
      most = (omega arith, subst (AllByRecursion (λ d. d.order ≤ c.order)) (sym e) tt);
    }
    with_cell (Some m) d = elim (cases_lt m c.order) [
      | inl l ↦
          let is : c.order ≡ max c.order m = omega arith in
          subst (λ (n : ℕ). IsDeepest (c ∷ cells) n) is (record {
            small = omega (arith, (h.0).order_in_range);
            named = name_of_first_cell c.order c cells refl;
            most = (omega arith, orders_below_larger m c.order cells (omega arith) d.most);
          })
      | inr ge ↦
          let is : m ≡ max c.order m = omega arith in
          subst (λ (n : ℕ). IsDeepest (c ∷ cells) n) is (record {
            small = d.small;
            named = named_more m c cells d.named;
            most = (ge, d.most);
          })
    ]

deepest_unstated : (cells : List CellNumber) (x : Option ℕ) → DeepestIs cells x → deepest_name (members_below cells None 30) ≡ x
deepest_unstated cells None e = deepest_name_unchanged cells None 0 30 (omega arith) (omega arith) (λ k le. no_name_in_empty k None (data_at k cells) (ap (data_at k) e) refl)
deepest_unstated cells (Some m) d = deepest_name_of_members cells None m d.small d.named (λ k le. no_name_in_empty k None (data_at k cells) (no_cells k cells (below_all k m cells (omega arith) d.most)) refl)

deepest_beyond : (cells : List CellNumber) (s : ℕ) (x : Option ℕ) → s < 30 → DeepestIs cells x → deeper x (Some s) ≡ Some s → (HasDeeper cells (Some s) → ⊥) → deepest_name (members_below cells (stated_if_deeper x (Some s)) 30) ≡ Some s
deepest_beyond cells s None lt d le fine = deepest_stated cells s lt fine
deepest_beyond cells s (Some m) lt d le fine =
    let most : max m s ≡ s = cc in
    elim (ltb m s) as (λ v. ltb m s ≡ v → deepest_name (members_below cells (cond v (Some s) None) 30) ≡ Some s) [
      | true ↦ λ e. deepest_stated cells s lt fine
      | false ↦ λ e. deepest_unstated cells (Some m) d ∙ ap (λ (n : ℕ). Some n) (omega (arith, most, ltb-false m s e))
    ] refl

deepest_is : (a : NumberSet) (stated : Option ℕ) → ForSome stated (λ k. k ≤ 29) → (IsTooCoarse a stated → ⊥) → deepest_name (members_below (cells_of a) (stated_if_deeper (deepest_cell (cells_of a)) stated) 30) ≡ deepest_written a stated
deepest_is a None small fine = deepest_unstated (cells_of a) (deepest_cell (cells_of a)) (deepest_of (cells_of a) (cells_are a))
deepest_is a (Some s) small fine =
    deepest_beyond (cells_of a) s (deepest_cell (cells_of a)) (omega (arith, small s refl)) (deepest_of (cells_of a) (cells_are a)) (stated_is_deepest (cells_of a) s fine) fine

-- ---- the whole text

mutual
  depth_same : (d : Data) → tree.depth (outline d) ≡ depth d
  depth_same null = refl
  depth_same (boolean b) = refl
  depth_same (number n) = refl
  depth_same (string s) = refl
  depth_same (array ds) = ap (λ (n : ℕ). suc n) (items_depth_same ds)
  depth_same (object ms) = ap (λ (n : ℕ). suc n) (members_depth_same ms)

  items_depth_same : (ds : Items) → tree.items_depth (items_outline ds) ≡ items_depth ds
  items_depth_same no_items = refl
  items_depth_same (item d ds) = ap₂ max (depth_same d) (items_depth_same ds)

  members_depth_same : (ms : Members) → tree.members_depth (members_outline ms) ≡ members_depth ms
  members_depth_same no_members = refl
  members_depth_same (member name d ms) = ap₂ max (depth_same d) (members_depth_same ms)

abbrev without_default_order : NumberSet → Option ℕ → Option ℕ
without_default_order a stated = stated_if_deeper (deepest_cell (cells_of a)) stated

-- the object as it is written
written_value : (a : NumberSet) (stated : Option ℕ) → object (members_in_order (cells_of a) (without_default_order a stated) orders_by_name) ≡ json_value a stated
unfolding json_value
written_value a stated = ap (λ (ms : Members). object ms) (sym (members_by_name (cells_of a) (without_default_order a stated)))

-- the text of the object
pub written_text : (a : NumberSet) (stated : Option ℕ) → compact_text (object (members_in_order (cells_of a) (without_default_order a stated) orders_by_name)) ≡ json_text a stated
unfolding json_text
written_text a stated = ap compact_text (written_value a stated)

-- the value that is parsed from the text
pub written_read : (a : NumberSet) (stated : Option ℕ) (text : List ℕ) → text ≡ json_text a stated → read text ≡ Some (json_value a stated)
written_read a stated text is =
    let value = object (members_in_order (cells_of a) (without_default_order a stated) orders_by_name) in
    let printed : text ≡ print (json_tokens (outline value)) = is ∙ sym (written_text a stated) ∙ sym (print-outline value) in
    let same : tokens text ≡ json_tokens (outline value) =
    ap tokens printed ∙ tokens-print (json_tokens (outline value)) (ArePrintable-json_tokens (outline value) (along_numbers (cells_of a) (without_default_order a stated) orders_by_name (cells_are a))) in
    let back : of_json (outline value) ≡ Some value = ap (option_map object) (members_back (cells_of a) (without_default_order a stated) (cells_are a)) in
    let flat : tree.depth (outline value) ≤ max_depth = omega (arith, depth_same value, ap depth (written_value a stated), json_depth_bounded a stated) in
    ap (λ (o : Option (json.Json × List Token)). option_and_then of_json (option_and_then (λ p. json.if_last p.0 p.1) o)) (ap (json.value max_depth) (same ∙ sym (append-nil _)) ∙ value-json_tokens (outline value) max_depth [] flat) ∙ back ∙ ap (λ (d : Data). Some d) (written_value a stated)

pub written_represents : (a : NumberSet) (stated : Option ℕ) (text : List ℕ) → IsUtf8 text → read text ≡ Some (json_value a stated) → IsWithin a pixels → ForSome stated (λ k. k ≤ 29) → (IsTooCoarse a stated → ⊥) → RepresentsJson text a (deepest_written a stated)
unfolding json_value
written_represents a stated text utf8 is in_pixels small fine =
    let cells = cells_of a in
    let empty_order = stated_if_deeper (deepest_cell cells) stated in
    let say = members_represent_cells cells 30 (members_below cells empty_order 30) 0 (omega arith) (cells_are a) (members_are cells empty_order 30) in
    record {
      value = json_value a stated;
      json = record { utf8 = utf8; value = is };
      members = members_below cells empty_order 30;
      object = refl;
      without_error = say.without_error;
      set_is = same_members a (members_pixels (members_below cells empty_order 30)) (λ q.
          ap (λ (b : NumberSet). set.contains b q) (sym (cells_fill a in_pixels)) ∙ contains-pixels_of q cells
          ∙ sym (say.contain q ∙ members_have q cells empty_order 30 (omega arith) ∙ all_below q cells (cells_are a)));
      moc_order_is = sym (deepest_is a stated small fine);
    }
