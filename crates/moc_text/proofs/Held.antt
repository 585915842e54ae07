-- Numbers capped at the maximum of 64 bits.
use Rattle.std.proofs.Common.{◌≡◌, ℕ, ◌+◌, ◌-◌, ◌*◌, ◌^◌, ◌<◌, ◌≤◌, true, false, cond, leb, leb-true, not, ltb, List, [], ◌∷◌, min, Option, Some, None, unwrap_or, refl, ap, ◌∙◌, arith}
use Rattle.std.specs.Char.{is_ascii_digit, digit_value}
use Rattle.std.specs.Int.{IsInRange}
use Rattle.std.specs.Option.{ForSome}
use Rattle.std.proofs.lemmas.Bool.{ltb-true, ltb-false}
use Rattle.moc_text.specs.Ascii.{current_order, last_cell, mark_error, item_error, item_pixels}
use Rattle.moc_sphere.specs.CellNumber.{cell_count}
use Rattle.moc_ranges.specs.Cells.{spans}
use Rattle.moc_text.specs.declared.ascii.error.TextError.{TextError}
use Rattle.moc_text.specs.declared.ascii.error.TextError.TheVariants.{OrderTooLarge, CellTooLarge, Backwards}
use Rattle.moc_text.proofs.Powers.{cells_fit}
use Rattle.std.specs.Str.{all_ascii_digits}
use Rattle.std.specs.Str.Parse.{digits_value_after, digits_value}
use Rattle.std.proofs.lemmas.Str.{digit_value_digit}
use Rattle.std.proofs.lemmas.Bool.Decides.{nat_tests}
use Rattle.moc_text.specs.Private.Scan.{saturated_value}
use Rattle.moc_text.specs.declared.ascii.number.Numeral.{Numeral}
use Rattle.moc_text.specs.declared.ascii.number.Item.{Item}
use Rattle.moc_text.specs.declared.ascii.number.WordNumbers.{WordNumbers}
use Rattle.moc_text.proofs.Automaton.{both_true}

is_digit : (d : ℕ) → is_ascii_digit d ≡ true → IsInRange 48 57 d
is_digit d h =
    let p = both_true (leb 48 d) (leb d 57) h in
    (leb-true 48 d p.0, leb-true d 57 p.1)

-- one more digit
held_step : (top v d x : ℕ) → x ≡ d - 48 → min (min (min v top * 10) top + (d - 48)) top ≡ min (v * 10 + x) top
held_step top v d x e = omega arith

saturated-digits : (v : ℕ) (ds : List ℕ) → all_ascii_digits ds ≡ true → saturated_value (min v (2 ^ 64 - 1)) ds ≡ min (digits_value_after 10 v ds) (2 ^ 64 - 1)
saturated-digits v [] h = refl
saturated-digits v (d ∷ ds) h =
    let p = both_true (is_ascii_digit d) (all_ascii_digits ds) h in
    let e : digit_value d ≡ d - 48 = omega (arith, digit_value_digit d (is_digit d p.0)) in
    ap (λ n. saturated_value n ds) (held_step (2 ^ 64 - 1) v d (digit_value d) e) ∙ saturated-digits (v * 10 + digit_value d) ds p.1

pub saturated_value_is_capped : (ds : List ℕ) → all_ascii_digits ds ≡ true → saturated_value 0 ds ≡ min (digits_value 10 ds) (2 ^ 64 - 1)
saturated_value_is_capped ds h = saturated-digits 0 ds h

abbrev pub saturated_numeral : Numeral → Numeral
saturated_numeral n = record { at = n.at; value = min n.value (2 ^ 64 - 1) }

abbrev pub saturated_last : Option Numeral → Option Numeral
saturated_last None = None
saturated_last (Some n) = Some (saturated_numeral n)

abbrev pub saturated_item : Item → Item
saturated_item i = record { first = saturated_numeral i.first; last = saturated_last i.last }

abbrev pub saturated_option : Option Item → Option Item
saturated_option None = None
saturated_option (Some i) = Some (saturated_item i)

-- the numbers of a word as the program stores them
abbrev pub saturated : WordNumbers → WordNumbers
saturated n = record { mark = saturated_last n.mark; item = saturated_option n.item }

-- ---- a capped number is equivalent

-- comparisons with numbers that fit into 64 bits
ltb-saturated : (top n v : ℕ) → n ≤ top → ltb (min v top) n ≡ ltb v n
ltb-saturated top n v h = grind (arith, nat_tests)

saturated-ltb : (top n v : ℕ) → n < top → ltb n (min v top) ≡ ltb n v
saturated-ltb top n v h = grind (arith, nat_tests)

below_cap : (top n v : ℕ) → v < n → n ≤ top → min v top ≡ v
below_cap top n v lt le = omega arith

pub mark_error-saturated : (m : Option Numeral) → mark_error (saturated_last m) ≡ mark_error m
mark_error-saturated None = refl
mark_error-saturated (Some n) = ap (λ v. cond v (Some (OrderTooLarge n.at)) None) (saturated-ltb (2 ^ 64 - 1) 29 n.value (omega arith))

-- an order without an error
pub order_small : (n : Numeral) → mark_error (Some n) ≡ None → n.value ≤ 29
order_small n h =
    elim (ltb 29 n.value) as (λ v. ltb 29 n.value ≡ v → cond v (Some (OrderTooLarge n.at)) None ≡ None → n.value ≤ 29) [
      | true ↦ λ e k. absurd cc
      | false ↦ λ e k. ltb-false 29 n.value e
    ] refl h

pub order_at-saturated : (before : Option ℕ) (m : Option Numeral) → mark_error m ≡ None → current_order before (saturated_last m) ≡ current_order before m
order_at-saturated before None h = refl
order_at-saturated before (Some n) h = ap (λ (v : ℕ). Some v) (below_cap (2 ^ 64 - 1) 30 n.value (omega (arith, order_small n h)) (omega arith))

last_cell-saturated : (i : Item) → last_cell (saturated_item i) ≡ saturated_numeral (last_cell i)
last_cell-saturated i = elim i.last as (λ l. unwrap_or (saturated_last l) (saturated_numeral i.first) ≡ saturated_numeral (unwrap_or l i.first)) [ None ↦ refl | Some n ↦ refl ]

-- the tests of an item, on its numbers
abbrev tests : ℕ → Numeral → Numeral → Option TextError
tests cells first last =
    cond (not (ltb first.value cells)) (Some (CellTooLarge first.at))
    (cond (not (ltb last.value cells)) (Some (CellTooLarge last.at))
    (cond (ltb last.value first.value) (Some (Backwards first.at)) None))

tests-saturated : (cells : ℕ) (first last : Numeral) → cells ≤ 2 ^ 64 - 1 → tests cells (saturated_numeral first) (saturated_numeral last) ≡ tests cells first last
tests-saturated cells first last le =
    let a : ltb (min first.value (2 ^ 64 - 1)) cells ≡ ltb first.value cells = ltb-saturated (2 ^ 64 - 1) cells first.value le in
    let b : ltb (min last.value (2 ^ 64 - 1)) cells ≡ ltb last.value cells = ltb-saturated (2 ^ 64 - 1) cells last.value le in
    rw (a, b) (
    elim (ltb first.value cells) as (λ v. ltb first.value cells ≡ v → cond (not v) (Some (CellTooLarge first.at)) (cond (not (ltb last.value cells)) (Some (CellTooLarge last.at)) (cond (ltb (min last.value (2 ^ 64 - 1)) (min first.value (2 ^ 64 - 1))) (Some (Backwards first.at)) None))
    ≡ cond (not v) (Some (CellTooLarge first.at)) (cond (not (ltb last.value cells)) (Some (CellTooLarge last.at)) (cond (ltb last.value first.value) (Some (Backwards first.at)) None))) [
      | false ↦ λ e. refl
      | true ↦ λ e. elim (ltb last.value cells) as (λ v. ltb last.value cells ≡ v → cond (not v) (Some (CellTooLarge last.at)) (cond (ltb (min last.value (2 ^ 64 - 1)) (min first.value (2 ^ 64 - 1))) (Some (Backwards first.at)) None)
          ≡ cond (not v) (Some (CellTooLarge last.at)) (cond (ltb last.value first.value) (Some (Backwards first.at)) None)) [
            | false ↦ λ k. refl
            | true ↦ λ k.
                let x : min first.value (2 ^ 64 - 1) ≡ first.value = below_cap (2 ^ 64 - 1) cells first.value (ltb-true _ _ e) le in
                let y : min last.value (2 ^ 64 - 1) ≡ last.value = below_cap (2 ^ 64 - 1) cells last.value (ltb-true _ _ k) le in
                rw (x, y) refl
          ] refl
    ] refl)

abbrev pub IsSmall : Option ℕ → Type 0
IsSmall k = ForSome k (λ n. n ≤ 29)

pub item_error-saturated : (k : Option ℕ) (at : ℕ) (i : Option Item) → IsSmall k → item_error k at (saturated_option i) ≡ item_error k at i
item_error-saturated None at None h = refl
item_error-saturated (Some k) at None h = refl
item_error-saturated None at (Some i) h = refl
item_error-saturated (Some k) at (Some i) h =
    ap (tests (cell_count k) (saturated_numeral i.first)) (last_cell-saturated i) ∙ tests-saturated (cell_count k) i.first (last_cell i) (omega (arith, cells_fit k (h k refl)))

-- the numbers of an item without an error are cells
range_within_cells : (cells : ℕ) (first last : Numeral) → tests cells first last ≡ None → (first.value < cells) × (last.value < cells) × (first.value ≤ last.value)
range_within_cells cells first last h =
    elim (ltb first.value cells) as (λ v. ltb first.value cells ≡ v → cond (not v) (Some (CellTooLarge first.at)) (cond (not (ltb last.value cells)) (Some (CellTooLarge last.at)) (cond (ltb last.value first.value) (Some (Backwards first.at)) None)) ≡ None → (first.value < cells) × (last.value < cells) × (first.value ≤ last.value)) [
      | false ↦ λ e h. absurd cc
      | true ↦ λ e. elim (ltb last.value cells) as (λ v. ltb last.value cells ≡ v → cond (not v) (Some (CellTooLarge last.at)) (cond (ltb last.value first.value) (Some (Backwards first.at)) None) ≡ None → (first.value < cells) × (last.value < cells) × (first.value ≤ last.value)) [
        | false ↦ λ k h. absurd cc
        | true ↦ λ k. elim (ltb last.value first.value) as (λ v. ltb last.value first.value ≡ v → cond v (Some (Backwards first.at)) None ≡ None → (first.value < cells) × (last.value < cells) × (first.value ≤ last.value)) [
          | true ↦ λ l h. absurd cc
          | false ↦ λ l h. (ltb-true _ _ e, ltb-true _ _ k, ltb-false _ _ l)
        ] refl
      ] refl
    ] refl h

pub item_cells : (k at : ℕ) (i : Item) → item_error (Some k) at (Some i) ≡ None → (i.first.value < cell_count k) × ((last_cell i).value < cell_count k) × (i.first.value ≤ (last_cell i).value)
item_cells k at i h = range_within_cells (cell_count k) i.first (last_cell i) h

pub item_pixels-saturated : (k : Option ℕ) (at : ℕ) (i : Option Item) → IsSmall k → item_error k at i ≡ None → item_pixels k (saturated_option i) ≡ item_pixels k i
item_pixels-saturated None at None small h = refl
item_pixels-saturated None at (Some i) small h = refl
item_pixels-saturated (Some k) at None small h = refl
item_pixels-saturated (Some k) at (Some i) small h =
    let p = item_cells k at i h in
    let fit : cell_count k ≤ 2 ^ 64 - 1 = omega (arith, cells_fit k (small k refl)) in
    let x : min i.first.value (2 ^ 64 - 1) ≡ i.first.value = below_cap (2 ^ 64 - 1) (cell_count k) i.first.value p.0 fit in
    let y : min (last_cell i).value (2 ^ 64 - 1) ≡ (last_cell i).value = below_cap (2 ^ 64 - 1) (cell_count k) (last_cell i).value p.1 fit in
    let z : (last_cell (saturated_item i)).value ≡ (last_cell i).value = ap (λ (n : Numeral). n.value) (last_cell-saturated i) ∙ y in
    ap (λ (f : ℕ). spans k f (last_cell (saturated_item i)).value) x ∙ ap (spans k i.first.value) z
