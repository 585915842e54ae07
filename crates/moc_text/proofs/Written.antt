-- A written text is parsed as the set that was written.
use Rattle.std.proofs.Common.{◌≡◌, ℕ, suc, ◌+◌, ◌^◌, ◌<◌, ◌≤◌, Bool, true, false, cond, eqb, leb, ltb, ◌&&◌, ◌||◌, ◌/◌, List, [], ◌∷◌, ◌++◌, length, map, max, Option, Some, None, option_map, option_to_list, refl, sym, ap, subst, ◌∙◌, arith, inl, inr}
use Rattle.std.specs.Prelude.{decimal}
use Rattle.std.specs.Str.{all_ascii_digits}
use Rattle.std.specs.Str.Parse.{digits_value, AllDigits}
use Rattle.std.specs.Option.{option_or}
use Rattle.std.specs.FinSet as set
use Rattle.std.specs.Cmp.{nat_cmp_total}
use Rattle.std.specs.List.{join_with_byte, AllByRecursion}
use Rattle.std.proofs.lemmas.List.{append-nil}
use Rattle.std.proofs.lemmas.Bool.{cases_lt, le-leb, eqb-true, lt-ltb, le-ltb, ltb-false}
use Rattle.std.proofs.lemmas.Str.Parse.{digit_from_value}
use Rattle.std.proofs.lemmas.Fmt.{decimal_is_IsNumeral}
use Rattle.moc_text.specs.Ascii.{Word, words, words_from, IsNumber, Mark, mark_text, ItemText, OneCell, CellRange, item_text}
use Rattle.moc_text.specs.Ascii.{IsItemText, Shape, JustMark, JustItem, MarkItem, shape_text, IsShape, numbers_at, mark_at}
use Rattle.moc_text.specs.Ascii.{item_at, current_order, last_cell, mark_error, item_error, error_of, item_pixels}
use Rattle.moc_text.specs.Ascii.{pixels_of_words, deeper, deepest_of, AreNumbersOf, Represents}
use Rattle.moc_text.specs.AsciiText.{run_of_one, follows, runs_from, runs_of, run_text, order_text, mark_text_of, stated_if_deeper, words_of, ascii_text, IsTooCoarse, deepest_cell, deepest_written}
use Rattle.moc_text.specs.declared.ascii.number.Item.{Item}
use Rattle.moc_text.specs.declared.ascii.number.WordNumbers.{WordNumbers}
use Rattle.moc_text.specs.declared.ascii.writing.Run.{Run as CellRun}
use Rattle.moc_text.specs.declared.ascii.error.TextError.TheVariants.{OrderTooLarge}
use Rattle.moc_text.proofs.Automaton.{both_true}
use Rattle.moc_text.proofs.WordBoundaries.{words_front, words_skip}
use Rattle.moc_text.proofs.ReadWords.{shape_part, shape_some, deeper_assoc, deeper-None}
use Rattle.moc_text.proofs.Powers.{cells_fit}
use Rattle.moc_text.proofs.Held.{IsSmall}
use Rattle.moc_sphere.specs.CellNumber.{CellNumber, IsCell, cell_count, cell_size}
use Rattle.moc_lists.specs.RangeList.{NumberSet, pixel_count}
use Rattle.moc_lists.specs.Lemmas.Members.{same_members}
use Rattle.moc_ranges.specs.Lemmas.Members.{contains-spans}
use Rattle.moc_ranges.specs.Operations.{pixels, IsWithin}
use Rattle.moc_ranges.specs.Cells.{span, spans, pixels_of, cells_of}
use Rattle.moc_ranges.specs.Lemmas.Cells.{cells_are}
use Rattle.moc_ranges.specs.Lemmas.{spans-one, cells_fill, union-assoc, empty-union}
use Rattle.std.proofs.lemmas.Bool.Decides.{nat_tests}
use Rattle.moc_text.proofs.Deepest.{HasDeeper}

-- ---- decimal numbers

digits_are : (ds : List ℕ) → AllDigits 10 ds → all_ascii_digits ds ≡ true
digits_are [] h = refl
digits_are (d ∷ ds) h =
    let r = digit_from_value d h.0 in
    rw (le-leb 48 d r.0, le-leb d 57 r.1) (digits_are ds h.1)

pub IsNumber-decimal : (n : ℕ) → n < 2 ^ 64 → IsNumber (decimal n)
IsNumber-decimal n h =
    let k = decimal_is_IsNumeral n h in
    (k.0.0, digits_are (decimal n) k.0.1)

pub value-decimal : (n : ℕ) → n < 2 ^ 64 → digits_value 10 (decimal n) ≡ n
value-decimal n h = (decimal_is_IsNumeral n h).1

-- ---- the words of words separated by spaces

-- words with these shapes, from an offset on
abbrev words_of_shapes : ℕ → List Shape → List Word
words_of_shapes at [] = []
words_of_shapes at (s ∷ ss) = record { at = at; bytes = shape_text s } ∷ words_of_shapes (at + length (shape_text s) + 1) ss

abbrev numbers : ℕ → List Shape → List WordNumbers
numbers at [] = []
numbers at (s ∷ ss) = numbers_at at s ∷ numbers (at + length (shape_text s) + 1) ss

words-join : (at : ℕ) (ss : List Shape) → AllByRecursion IsShape ss → words_from at (join_with_byte 32 (map shape_text ss)) ≡ words_of_shapes at ss
words-join at [] h = refl
words-join at (s ∷ []) h =
    ap (words_from at) (sym (append-nil (shape_text s))) ∙ words_front (shape_text s) [] at (shape_some s h.0) (shape_part s h.0) refl
words-join at (s ∷ t ∷ ss) h =
    words_front (shape_text s) (32 ∷ join_with_byte 32 (map shape_text (t ∷ ss))) at (shape_some s h.0) (shape_part s h.0) refl
    ∙ ap (λ (ws : List Word). record { at = at; bytes = shape_text s } ∷ ws) (words_skip 32 (join_with_byte 32 (map shape_text (t ∷ ss))) (at + length (shape_text s)) refl ∙ words-join (at + length (shape_text s) + 1) (t ∷ ss) h.1)

-- ---- the shapes of a written text

abbrev order_mark : ℕ → Mark
order_mark k = record { prefixed = false; order = decimal k }

abbrev run_cells : CellRun → ItemText
run_cells r = cond (eqb r.first r.last) (OneCell (decimal r.first)) (CellRange (decimal r.first) (decimal r.last))

abbrev run_shape : Option ℕ → CellRun → Shape
run_shape None r = MarkItem (order_mark r.order) (run_cells r)
run_shape (Some j) r = cond (eqb j r.order) (JustItem (run_cells r)) (MarkItem (order_mark r.order) (run_cells r))

abbrev empty_order_shapes : Option ℕ → List Shape
empty_order_shapes None = []
empty_order_shapes (Some k) = JustMark (order_mark k) ∷ []

abbrev shapes_of : Option ℕ → Option ℕ → List CellRun → List Shape
shapes_of stated before [] = empty_order_shapes (stated_if_deeper before stated)
shapes_of stated before (r ∷ rs) = run_shape before r ∷ shapes_of stated (Some r.order) rs

run_cells-text : (r : CellRun) → item_text (run_cells r) ≡ run_text r
run_cells-text r = elim (eqb r.first r.last) as (λ v. item_text (cond v (OneCell (decimal r.first)) (CellRange (decimal r.first) (decimal r.last))) ≡ cond v (decimal r.first) (decimal r.first ++ 45 ∷ decimal r.last)) [ true ↦ refl | false ↦ refl ]

run_shape-text : (before : Option ℕ) (r : CellRun) → shape_text (run_shape before r) ≡ mark_text_of before r.order ++ run_text r
run_shape-text None r = ap (λ (t : List ℕ). order_text r.order ++ t) (run_cells-text r)
run_shape-text (Some j) r =
    elim (eqb j r.order) as (λ v. shape_text (cond v (JustItem (run_cells r)) (MarkItem (order_mark r.order) (run_cells r))) ≡ cond v [] (order_text r.order) ++ run_text r) [
      | true ↦ run_cells-text r
      | false ↦ ap (λ (t : List ℕ). order_text r.order ++ t) (run_cells-text r)
    ]

empty_order_shapes-text : (empty_order : Option ℕ) → map shape_text (empty_order_shapes empty_order) ≡ option_to_list (option_map order_text empty_order)
empty_order_shapes-text None = refl
empty_order_shapes-text (Some k) = refl

shapes_of-text : (stated before : Option ℕ) (rs : List CellRun) → map shape_text (shapes_of stated before rs) ≡ words_of stated before rs
shapes_of-text stated before [] = empty_order_shapes-text (stated_if_deeper before stated)
shapes_of-text stated before (r ∷ rs) =
    ap (λ (w : List ℕ). w ∷ map shape_text (shapes_of stated (Some r.order) rs)) (run_shape-text before r)
    ∙ ap (λ (ws : List (List ℕ)). (mark_text_of before r.order ++ run_text r) ∷ ws) (shapes_of-text stated (Some r.order) rs)

-- ---- runs of cells

pub record IsRun (r : CellRun) : Type 0 where
  pub order : r.order ≤ 29
  pub forwards : r.first ≤ r.last
  pub last : r.last < cell_count r.order

runs_from-all : (r : CellRun) (cs : List CellNumber) → IsRun r → AllByRecursion IsCell cs → AllByRecursion IsRun (runs_from r cs)
runs_from-all r [] h all = (h, tt)
runs_from-all r (c ∷ cs) h all =
    let k : IsCell c = all.0 in
    elim (follows r c) as (λ v. follows r c ≡ v → AllByRecursion IsRun (cond v (runs_from (record r { last = c.index }) cs) (r ∷ runs_from (run_of_one c) cs))) [
      | true ↦ λ e.
          let p = both_true (eqb c.order r.order) (eqb (r.last + 1) c.index) e in
          let o : c.order ≡ r.order = eqb-true c.order r.order p.0 in
          let n : r.last + 1 ≡ c.index = eqb-true (r.last + 1) c.index p.1 in
          runs_from-all (record r { last = c.index }) cs (record { order = h.order; forwards = omega (arith, h.forwards); last = subst (λ j. c.index < cell_count j) o k.index_in_range }) all.1
      | false ↦ λ e. (h, runs_from-all (run_of_one c) cs (record { order = k.order_in_range; forwards = omega arith; last = k.index_in_range }) all.1)
    ] refl

runs_of-all : (cells : List CellNumber) → AllByRecursion IsCell cells → AllByRecursion IsRun (runs_of cells)
runs_of-all [] all = tt
runs_of-all (c ∷ cs) all =
    let k : IsCell c = all.0 in
    runs_from-all (run_of_one c) cs (record { order = k.order_in_range; forwards = omega arith; last = k.index_in_range }) all.1

-- ---- the shapes are valid

run_cells_are : (r : CellRun) → IsRun r → IsItemText (run_cells r)
run_cells_are r h =
    let fit = cells_fit r.order h.order in
    let a : IsNumber (decimal r.first) = IsNumber-decimal r.first (omega (arith, h.forwards, h.last)) in
    let b : IsNumber (decimal r.last) = IsNumber-decimal r.last (omega (arith, h.last)) in
    elim (eqb r.first r.last) as (λ v. IsItemText (cond v (OneCell (decimal r.first)) (CellRange (decimal r.first) (decimal r.last)))) [ true ↦ a | false ↦ (a, b) ]

order_number : (k : ℕ) → k ≤ 29 → IsNumber (decimal k)
order_number k h = IsNumber-decimal k (omega arith)

run_shape_is : (before : Option ℕ) (r : CellRun) → IsRun r → IsShape (run_shape before r)
run_shape_is None r h = (order_number r.order h.order, run_cells_are r h)
run_shape_is (Some j) r h =
    elim (eqb j r.order) as (λ v. IsShape (cond v (JustItem (run_cells r)) (MarkItem (order_mark r.order) (run_cells r)))) [ true ↦ run_cells_are r h | false ↦ (order_number r.order h.order, run_cells_are r h) ]

empty_order_shapes_valid : (empty_order : Option ℕ) → IsSmall empty_order → AllByRecursion IsShape (empty_order_shapes empty_order)
empty_order_shapes_valid None h = tt
empty_order_shapes_valid (Some k) h = (order_number k (h k refl), tt)

small_beyond : (before stated : Option ℕ) → IsSmall stated → IsSmall (stated_if_deeper before stated)
small_beyond before None h = h
small_beyond None (Some k) h = h
small_beyond (Some j) (Some k) h = elim (ltb j k) as (λ v. IsSmall (cond v (Some k) None)) [ true ↦ h | false ↦ λ n e. absurd cc ]

shapes_are : (stated before : Option ℕ) (rs : List CellRun) → IsSmall stated → AllByRecursion IsRun rs → AllByRecursion IsShape (shapes_of stated before rs)
shapes_are stated before [] small h = empty_order_shapes_valid (stated_if_deeper before stated) (small_beyond before stated small)
shapes_are stated before (r ∷ rs) small h = (run_shape_is before r h.0, shapes_are stated (Some r.order) rs small h.1)

-- ---- their numbers

record RunItem (r : CellRun) (i : Item) : Type 0 where
  first : i.first.value ≡ r.first
  last : (last_cell i).value ≡ r.last

run_item : (at : ℕ) (r : CellRun) → IsRun r → RunItem r (item_at at (run_cells r))
run_item at r h =
    let fit = cells_fit r.order h.order in
    let a : digits_value 10 (decimal r.first) ≡ r.first = value-decimal r.first (omega (arith, h.forwards, h.last)) in
    let b : digits_value 10 (decimal r.last) ≡ r.last = value-decimal r.last (omega (arith, h.last)) in
    elim (eqb r.first r.last) as (λ v. eqb r.first r.last ≡ v → RunItem r (item_at at (cond v (OneCell (decimal r.first)) (CellRange (decimal r.first) (decimal r.last))))) [
      | true ↦ λ e. record { first = a; last = a ∙ eqb-true r.first r.last e }
      | false ↦ λ e. record { first = a; last = b }
    ] refl

-- the meaning of a run's numbers, with an optional current order
record RunParts (before : Option ℕ) (r : CellRun) (n : WordNumbers) : Type 0 where
  mark : mark_error n.mark ≡ None
  order : current_order before n.mark ≡ Some r.order
  deepest : (x : Option ℕ) → deeper before (deeper (current_order None n.mark) x) ≡ deeper before (deeper (Some r.order) x)
  item : Item
  item_is : n.item ≡ Some item
  values : RunItem r item

order_mark-fault : (at k : ℕ) → k ≤ 29 → mark_error (Some (mark_at at (order_mark k))) ≡ None
order_mark-fault at k h = ap (λ v. cond (ltb 29 v) (Some (OrderTooLarge (at + 0))) None) (value-decimal k (omega arith)) ∙ rw (le-ltb 29 k h) refl

order_mark-value : (at k : ℕ) → k ≤ 29 → Some ((mark_at at (order_mark k)).value) ≡ Some k
order_mark-value at k h = ap (λ (n : ℕ). Some n) (value-decimal k (omega arith))

marked_parts : (before : Option ℕ) (at : ℕ) (r : CellRun) → IsRun r → RunParts before r (numbers_at at (MarkItem (order_mark r.order) (run_cells r)))
marked_parts before at r h = record {
  mark = order_mark-fault at r.order h.order;
  order = order_mark-value at r.order h.order;
  deepest = λ x. ap (λ k. deeper before (deeper k x)) (order_mark-value at r.order h.order);
  item = item_at (at + length (mark_text (order_mark r.order))) (run_cells r);
  item_is = refl;
  values = run_item (at + length (mark_text (order_mark r.order))) r h;
}

deeper_same : (j : ℕ) (x : Option ℕ) → deeper (Some j) (deeper (Some j) x) ≡ deeper (Some j) x
deeper_same j x = sym (deeper_assoc (Some j) (Some j) x) ∙ ap (λ n. deeper (Some n) x) (omega arith)

run_parts : (before : Option ℕ) (at : ℕ) (r : CellRun) → IsRun r → RunParts before r (numbers_at at (run_shape before r))
run_parts None at r h = marked_parts None at r h
run_parts (Some j) at r h =
    elim (eqb j r.order) as (λ v. eqb j r.order ≡ v → RunParts (Some j) r (numbers_at at (cond v (JustItem (run_cells r)) (MarkItem (order_mark r.order) (run_cells r))))) [
      | true ↦ λ e.
          let same : j ≡ r.order = eqb-true j r.order e in
          record {
            mark = refl;
            order = ap (λ (n : ℕ). Some n) same;
            deepest = λ x. sym (deeper_same j x) ∙ ap (λ n. deeper (Some j) (deeper (Some n) x)) same;
            item = item_at at (run_cells r);
            item_is = refl;
            values = run_item at r h;
          }
      | false ↦ λ e. marked_parts (Some j) at r h
    ] refl

item_ok : (k at : ℕ) (i : Item) (r : CellRun) → RunItem r i → r.first ≤ r.last → r.last < cell_count k → item_error (Some k) at (Some i) ≡ None
item_ok k at i r v le lt =
    let a : ltb i.first.value (cell_count k) ≡ true = lt-ltb _ _ (omega (arith, v.first)) in
    let b : ltb (last_cell i).value (cell_count k) ≡ true = lt-ltb _ _ (omega (arith, v.last)) in
    let c : ltb (last_cell i).value i.first.value ≡ false = le-ltb _ _ (omega (arith, v.first, v.last)) in
    rw (a, b, c) refl

run_has_no_error : (before : Option ℕ) (at : ℕ) (r : CellRun) (n : WordNumbers) → IsRun r → RunParts before r n → error_of before at n ≡ None
run_has_no_error before at r n h p =
    let i : item_error (current_order before n.mark) at n.item ≡ None = ap (λ k. item_error k at n.item) p.order ∙ ap (item_error (Some r.order) at) p.item_is ∙ item_ok r.order at p.item r p.values h.forwards h.last in
    rw (p.mark, i) refl

empty_order_read : (before empty_order : Option ℕ) (at : ℕ) → IsSmall empty_order → AreNumbersOf before (words_of_shapes at (empty_order_shapes empty_order)) (numbers at (empty_order_shapes empty_order))
empty_order_read before None at h = tt
empty_order_read before (Some k) at h = ((JustMark (order_mark k), order_number k (h k refl), refl, refl), ap (λ f. option_or f None) (order_mark-fault at k (h k refl)), tt)

runs_read : (stated before : Option ℕ) (rs : List CellRun) (at : ℕ) → IsSmall stated → AllByRecursion IsRun rs → AreNumbersOf before (words_of_shapes at (shapes_of stated before rs)) (numbers at (shapes_of stated before rs))
runs_read stated before [] at small h = empty_order_read before (stated_if_deeper before stated) at (small_beyond before stated small)
runs_read stated before (r ∷ rs) at small h =
    let p = run_parts before at r h.0 in
    let next = at + length (shape_text (run_shape before r)) + 1 in (
      (run_shape before r, run_shape_is before r h.0, refl, refl),
      run_has_no_error before at r (numbers_at at (run_shape before r)) h.0 p,
      subst (λ k. AreNumbersOf k (words_of_shapes next (shapes_of stated (Some r.order) rs)) (numbers next (shapes_of stated (Some r.order) rs))) (sym p.order) (runs_read stated (Some r.order) rs next small h.1),
    )

-- ---- their pixels and their deepest order

abbrev run_pixels : CellRun → NumberSet
run_pixels r = spans r.order r.first r.last

abbrev all_pixels : List CellRun → NumberSet
all_pixels [] = set.empty
all_pixels (r ∷ rs) = set.union (run_pixels r) (all_pixels rs)

empty_order_has_no_pixels : (before empty_order : Option ℕ) (at : ℕ) → pixels_of_words before (numbers at (empty_order_shapes empty_order)) ≡ set.empty
empty_order_has_no_pixels before None at = refl
empty_order_has_no_pixels before (Some k) at = empty-union set.empty

run_pixels_of_numbers : (before : Option ℕ) (r : CellRun) (n : WordNumbers) → RunParts before r n → item_pixels (current_order before n.mark) n.item ≡ run_pixels r
run_pixels_of_numbers before r n p =
    ap (λ k. item_pixels k n.item) p.order ∙ ap (item_pixels (Some r.order)) p.item_is
    ∙ ap (λ (f : ℕ). spans r.order f (last_cell p.item).value) p.values.first
    ∙ ap (spans r.order r.first) p.values.last

all_pixels_of_numbers : (stated before : Option ℕ) (rs : List CellRun) (at : ℕ) → AllByRecursion IsRun rs → pixels_of_words before (numbers at (shapes_of stated before rs)) ≡ all_pixels rs
all_pixels_of_numbers stated before [] at h = empty_order_has_no_pixels before (stated_if_deeper before stated) at
all_pixels_of_numbers stated before (r ∷ rs) at h =
    let n = numbers_at at (run_shape before r) in
    let p = run_parts before at r h.0 in
    let others = numbers (at + length (shape_text (run_shape before r)) + 1) (shapes_of stated (Some r.order) rs) in
    ap (λ (x : NumberSet). set.union x (pixels_of_words (current_order before n.mark) others)) (run_pixels_of_numbers before r n p)
    ∙ ap (λ (k : Option ℕ). set.union (run_pixels r) (pixels_of_words k others)) p.order
    ∙ ap (set.union (run_pixels r)) (all_pixels_of_numbers stated (Some r.order) rs (at + length (shape_text (run_shape before r)) + 1) h.1)

abbrev deepest_run : List CellRun → Option ℕ
deepest_run [] = None
deepest_run (r ∷ rs) = deeper (Some r.order) (deepest_run rs)

max_left : (j k : ℕ) → k ≤ j → j ≡ max j k
max_left j k h = omega arith

stated_deepest : (before stated : Option ℕ) (at : ℕ) → IsSmall stated → deeper before (deepest_of (numbers at (empty_order_shapes (stated_if_deeper before stated)))) ≡ deeper before stated
stated_deepest before None at h = refl
stated_deepest None (Some k) at h = order_mark-value at k (h k refl)
stated_deepest (Some j) (Some k) at h =
    elim (ltb j k) as (λ v. ltb j k ≡ v → deeper (Some j) (deepest_of (numbers at (empty_order_shapes (cond v (Some k) None)))) ≡ deeper (Some j) (Some k)) [
      | true ↦ λ e. ap (deeper (Some j)) (order_mark-value at k (h k refl))
      | false ↦ λ e. ap (λ (n : ℕ). Some n) (max_left j k (ltb-false j k e))
    ] refl

runs_deepest : (stated before : Option ℕ) (rs : List CellRun) (at : ℕ) → IsSmall stated → AllByRecursion IsRun rs → deeper before (deepest_of (numbers at (shapes_of stated before rs))) ≡ deeper before (deeper (deepest_run rs) stated)
runs_deepest stated before [] at small h = stated_deepest before stated at small
runs_deepest stated before (r ∷ rs) at small h =
    let p = run_parts before at r h.0 in
    let next = at + length (shape_text (run_shape before r)) + 1 in
    p.deepest (deepest_of (numbers next (shapes_of stated (Some r.order) rs)))
    ∙ ap (deeper before) (runs_deepest stated (Some r.order) rs next small h.1)
    ∙ ap (deeper before) (sym (deeper_assoc (Some r.order) (deepest_run rs) stated))

-- ---- runs and their cells

one_more : (first last i : ℕ) (inside : Bool) → first ≤ last → (inside && (leb first i && leb i (last + 1))) ≡ ((inside && (leb first i && leb i last)) || (inside && (leb (last + 1) i && leb i (last + 1))))
one_more first last i true le = grind (arith, nat_tests)
one_more first last i false le = refl

-- a range of cells that is extended to the next cell
row_more : (k first last : ℕ) → first ≤ last → spans k first (last + 1) ≡ set.union (spans k first last) (span k (last + 1))
row_more k first last le = same_members _ _ (λ q.
    contains-spans k first (last + 1) q
    ∙ one_more first last (q / cell_size k) (ltb q pixel_count) le
    ∙ ap (λ b. b || (ltb q pixel_count && (leb (last + 1) (q / cell_size k) && leb (q / cell_size k) (last + 1)))) (sym (contains-spans k first last q))
    ∙ ap (λ b. set.contains (spans k first last) q || b) (sym (contains-spans k (last + 1) (last + 1) q))
    ∙ sym (set.contains-union nat_cmp_total (spans k first last) (spans k (last + 1) (last + 1)) q)
    ∙ ap (λ (a : NumberSet). set.contains (set.union (spans k first last) a) q) (spans-one k (last + 1)))

-- a run that is extended to the next cell
run_more : (r : CellRun) (c : CellNumber) → r.first ≤ r.last → r.last + 1 ≡ c.index → c.order ≡ r.order → run_pixels (record r { last = c.index }) ≡ set.union (run_pixels r) (span c.order c.index)
run_more r c le n o =
    ap (spans r.order r.first) (sym n) ∙ row_more r.order r.first r.last le
    ∙ ap (λ (i : ℕ). set.union (run_pixels r) (span r.order i)) n
    ∙ ap (λ (k : ℕ). set.union (run_pixels r) (span k c.index)) (sym o)

runs_from-pixels : (r : CellRun) (cs : List CellNumber) → r.first ≤ r.last → all_pixels (runs_from r cs) ≡ set.union (run_pixels r) (pixels_of cs)
unfolding pixels_of
runs_from-pixels r [] h = refl
runs_from-pixels r (c ∷ cs) h =
    elim (follows r c) as (λ v. follows r c ≡ v → all_pixels (cond v (runs_from (record r { last = c.index }) cs) (r ∷ runs_from (run_of_one c) cs)) ≡ set.union (run_pixels r) (set.union (span c.order c.index) (pixels_of cs))) [
      | true ↦ λ e.
          let p = both_true (eqb c.order r.order) (eqb (r.last + 1) c.index) e in
          let o : c.order ≡ r.order = eqb-true c.order r.order p.0 in
          let n : r.last + 1 ≡ c.index = eqb-true (r.last + 1) c.index p.1 in
          runs_from-pixels (record r { last = c.index }) cs (omega arith)
          ∙ ap (λ (a : NumberSet). set.union a (pixels_of cs)) (run_more r c h n o)
          ∙ union-assoc (run_pixels r) (span c.order c.index) (pixels_of cs)
      | false ↦ λ e.
          ap (set.union (run_pixels r)) (runs_from-pixels (run_of_one c) cs (omega arith) ∙ ap (λ (a : NumberSet). set.union a (pixels_of cs)) (spans-one c.order c.index))
    ] refl

runs_pixels : (cells : List CellNumber) → all_pixels (runs_of cells) ≡ pixels_of cells
unfolding pixels_of
runs_pixels [] = refl
runs_pixels (c ∷ cs) = runs_from-pixels (run_of_one c) cs (omega arith) ∙ ap (λ (a : NumberSet). set.union a (pixels_of cs)) (spans-one c.order c.index)

runs_from-deepest : (r : CellRun) (cs : List CellNumber) → deepest_run (runs_from r cs) ≡ deeper (Some r.order) (deepest_cell cs)
runs_from-deepest r [] = refl
runs_from-deepest r (c ∷ cs) =
    elim (follows r c) as (λ v. follows r c ≡ v → deepest_run (cond v (runs_from (record r { last = c.index }) cs) (r ∷ runs_from (run_of_one c) cs)) ≡ deeper (Some r.order) (deeper (Some c.order) (deepest_cell cs))) [
      | true ↦ λ e.
          let p = both_true (eqb c.order r.order) (eqb (r.last + 1) c.index) e in
          let o : c.order ≡ r.order = eqb-true c.order r.order p.0 in
          runs_from-deepest (record r { last = c.index }) cs ∙ sym (deeper_same r.order (deepest_cell cs)) ∙ ap (λ n. deeper (Some r.order) (deeper (Some n) (deepest_cell cs))) (sym o)
      | false ↦ λ e. ap (deeper (Some r.order)) (runs_from-deepest (run_of_one c) cs)
    ] refl

runs_of-deepest : (cells : List CellNumber) → deepest_run (runs_of cells) ≡ deepest_cell cells
runs_of-deepest [] = refl
runs_of-deepest (c ∷ cs) = runs_from-deepest (run_of_one c) cs

pub not_deeper : (c : CellNumber) (cs : List CellNumber) (k : ℕ) → (HasDeeper (c ∷ cs) (Some k) → ⊥) → c.order ≤ k
not_deeper c cs k h = elim (cases_lt k c.order) [ inl lt ↦ absurd (h (0, c, omega arith, refl, lt)) | inr le ↦ le ]

-- a stated order is at least as deep as every cell
pub stated_is_deepest : (cells : List CellNumber) (k : ℕ) → (HasDeeper cells (Some k) → ⊥) → deeper (deepest_cell cells) (Some k) ≡ Some k
stated_is_deepest [] k h = refl
stated_is_deepest (c ∷ cs) k h =
    let here : c.order ≤ k = not_deeper c cs k h in
    deeper_assoc (Some c.order) (deepest_cell cs) (Some k)
    ∙ ap (deeper (Some c.order)) (stated_is_deepest cs k (λ x. h (suc x.0, x.1, omega (arith, x.2), x.3, x.4)))
    ∙ ap (λ (n : ℕ). Some n) (omega arith)

deepest_is_written : (a : NumberSet) (stated : Option ℕ) → (HasDeeper (cells_of a) stated → ⊥) → deeper (deepest_cell (cells_of a)) stated ≡ deepest_written a stated
deepest_is_written a None h = deeper-None (deepest_cell (cells_of a))
deepest_is_written a (Some k) h = stated_is_deepest (cells_of a) k h

-- ---- the whole text

pub written_is_read : (a : NumberSet) (stated : Option ℕ) → IsWithin a pixels → IsSmall stated → (IsTooCoarse a stated → ⊥) → Represents (ascii_text a stated) a (deepest_written a stated)
unfolding ascii_text
written_is_read a stated in_pixels small fine =
    let cells = cells_of a in
    let all : AllByRecursion IsCell cells = cells_are a in
    let rs = runs_of cells in
    let runs : AllByRecursion IsRun rs = runs_of-all cells all in
    let shapes = shapes_of stated None rs in
    let text : join_with_byte 32 (map shape_text shapes) ≡ join_with_byte 32 (words_of stated None rs) = ap (join_with_byte 32) (shapes_of-text stated None rs) in
    let ws : words_of_shapes 0 shapes ≡ words (join_with_byte 32 (words_of stated None rs)) = sym (words-join 0 shapes (shapes_are stated None rs small runs)) ∙ ap words text in
    record {
      numbers = numbers 0 shapes;
      read = subst (λ (w : List Word). AreNumbersOf None w (numbers 0 shapes)) ws (runs_read stated None rs 0 small runs);
      set_is = sym (all_pixels_of_numbers stated None rs 0 runs ∙ runs_pixels cells ∙ cells_fill a in_pixels);
      moc_order_is = sym (runs_deepest stated None rs 0 small runs ∙ ap (λ k. deeper k stated) (runs_of-deepest cells) ∙ deepest_is_written a stated fine);
    }
