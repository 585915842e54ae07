-- The cell with a number.
use Rattle.std.proofs.Common.{◌≡◌, ◌≢◌, ℕ, zero, suc, ◌+◌, ◌*◌, ◌-◌, ◌^◌, ◌<◌, ◌≤◌, inl, inr, min, Bool, true, false}
use Rattle.std.proofs.Common.{cond, ◌==◌, Some, None, Result, Ok, Err, refl, sym, ap, subst, ◌∙◌, arith, lit<}
use mathlib.Core.Bool.{true≢false}
use Rattle.std.proofs.lemmas.Bool.Decides.{nat_tests}
use Rattle.std.proofs.lemmas.Bool.{cases_lt}
use Rattle.std.proofs.Math.Nat.{pow-le-pow_right}
use Rattle.std.proofs.lemmas.Nat.{pow-add}
use Rattle.std.proofs.lemmas.List.Sums.{count_by-le-length}
use Rattle.std.proofs.lemmas.List.FromFn.{length-range_with_len}
use Rattle.std.specs.List.{find, range_with_len}
use Rattle.std.specs.Option.{ok_or}
use Rattle.std.specs.Result.{result_or, result_map_both, is_ok, OkIff, IfOk}
use Rattle.moc_sphere.specs.CellNumber.{CellNumber, IsCell, cell_number, cell_count, uniq_of}
use Rattle.moc_sphere.specs.Rings.{ring_number, precedes}
use Rattle.moc_lines.specs.Numberings.{cell_with_number, number_error, cell_number_in, cell_or_error, converted_number}
use Rattle.moc_lines.specs.Language.{◌>>=◌}
use Rattle.moc_lines.specs.Private.Finding.{FindsCell}
use Rattle.moc_lines.specs.declared.numbering.NumberError.{NumberError}
use Rattle.moc_lines.specs.declared.numbering.NumberError.TheVariants.{CellTooLarge, RingTooLarge, NotUniq, OtherOrder}
use Rattle.moc_lines.specs.declared.numbering.Numbering.{Numbering}
use Rattle.moc_lines.specs.declared.numbering.Numbering.TheVariants.{Nest, Ring, Uniq}
use Rattle.moc_lines.specs.declared.renumbering.Renumbering.{Renumbering}

module _ (p : ℕ → Bool) where
  -- the only number of an interval that passes is returned
  find_only : (a n i : ℕ) → a ≤ i → i < a + n → p i ≡ true → ((j : ℕ) → a ≤ j → j < a + n → p j ≡ true → j ≡ i)
      → find p (range_with_len a n) ≡ Some i
  find_only a zero i low high passes only = absurd (omega arith)
  find_only a (suc n) i low high passes only =
      by (p a) refl (λ (other : a ≢ i). find_only (a + 1) n i (omega (arith, other)) (omega arith) passes
      (λ j below above. only j (omega arith) (omega arith)))
    where
      by : (b : Bool) → p a ≡ b → (a ≢ i → find p (range_with_len (a + 1) n) ≡ Some i)
          → cond b (Some a) (find p (range_with_len (a + 1) n)) ≡ Some i
      by true e later = ap (λ (m : ℕ). Some m) (only a (omega arith) (omega arith) e)
      by false e later = later (λ same. true≢false (sym passes ∙ ap p (sym same) ∙ e))

  -- if no number passes, none is returned
  find_none : (a n : ℕ) → ((j : ℕ) → a ≤ j → j < a + n → p j ≡ false) → find p (range_with_len a n) ≡ None
  find_none a zero none = refl
  find_none a (suc n) none =
      ap (λ b. cond b (Some a) (find p (range_with_len (a + 1) n))) (none a (omega arith) (omega arith))
      ∙ find_none (a + 1) n (λ j below above. none j (omega arith) (omega arith))

-- the only cell that has a number
pub cell_with_number-some : (v : Numbering) (k n i : ℕ) → i < cell_count k → cell_number_in v k i ≡ n
    → ((j : ℕ) → j < cell_count k → cell_number_in v k j ≡ n → j ≡ i) → cell_with_number v k n ≡ Some i
unfolding cell_with_number
cell_with_number-some v k n i high has only =
    find_only (λ j. cell_number_in v k j == n) 0 (cell_count k) i (omega arith) (omega (arith, high))
    (grind (arith, nat_tests, has))
    (λ j below above passes. only j (omega (arith, above)) (grind (arith, nat_tests, passes)))

-- a number that no cell has
pub cell_with_number-none : (v : Numbering) (k n : ℕ) → ((j : ℕ) → j < cell_count k → cell_number_in v k j ≢ n)
    → cell_with_number v k n ≡ None
unfolding cell_with_number
cell_with_number-none v k n none =
    find_none (λ j. cell_number_in v k j == n) 0 (cell_count k)
    (λ j below above. let other = none j (omega (arith, above)) in grind (arith, nat_tests, other))

-- the result for a number that some cell has
cell_with_number_is_ok : (v : Numbering) (k n i : ℕ) → cell_with_number v k n ≡ Some i → cell_or_error v k n ≡ Ok i
cell_with_number_is_ok v k n i is = ap (λ c. ok_or c (number_error v n)) is

-- the error for a number that no cell has
no_cell : (v : Numbering) (k n : ℕ) (error : NumberError) → cell_with_number v k n ≡ None → error ≡ number_error v n
    → cell_or_error v k n ≡ Err error
no_cell v k n error none is = ap (λ c. ok_or c (number_error v n)) none ∙ ap (λ (f : NumberError). Err f) (sym is)

-- the nested numbers of an order are those below the number of its cells
cell_of_nested_number : (k n : ℕ) → n < cell_count k → cell_with_number Nest k n ≡ Some n
cell_of_nested_number k n high = cell_with_number-some Nest k n n high refl (λ j below is. is)

not_nested : (k n : ℕ) → cell_count k ≤ n → cell_with_number Nest k n ≡ None
not_nested k n high = cell_with_number-none Nest k n (λ j below is. omega (arith, below, high, is))

-- the result for a nested number
pub nested_result : {E : Type 0} (k n : ℕ) (r : Result CellNumber E) (s : Result CellNumber NumberError)
    → s ≡ result_or r (Err CellTooLarge) → OkIff r (n < cell_count k) (cell_number k n) → FindsCell Nest k n s
nested_result k n (Ok cell) s e is =
    let number = cell_with_number_is_ok Nest k n n (cell_of_nested_number k n is.0) in
    let cell_is = subst (λ (c : CellNumber). FindsCell Nest k n (Ok c)) (sym is.1) (refl, number) in
    subst (FindsCell Nest k n) (sym e) cell_is
nested_result k n (Err why) s e not =
    let high : cell_count k ≤ n = omega (arith, not) in
    subst (FindsCell Nest k n) (sym e) (no_cell Nest k n CellTooLarge (not_nested k n high) refl)

-- the order of a cell, if there is one
abbrev result_order : {E : Type 0} → Result CellNumber E → ℕ
result_order (Ok cell) = cell.order
result_order (Err why) = 0

abbrev result_index : {E : Type 0} → Result CellNumber E → ℕ
result_index (Ok cell) = cell.index
result_index (Err why) = 0

-- the result for a ring number
pub ring_result : {E : Type 0} (k n : ℕ) (r : Result CellNumber E) (s : Result CellNumber NumberError)
    → s ≡ result_or r (Err RingTooLarge) → IfOk r (λ c. (c.order ≡ k) × IsCell c × (ring_number k c.index ≡ n))
    → ((i : ℕ) → i < cell_count k → ring_number k i ≡ n → r ≡ Ok (cell_number k i)) → FindsCell Ring k n s
ring_result k n (Ok cell) s e is only =
    let below : cell.index < cell_count k = subst (λ k. cell.index < cell_count k) is.0 is.1.index_in_range in
    let number = cell_with_number-some Ring k n cell.index below is.2
    (λ j high has. sym (ap result_index (only j high has))) in
    subst (FindsCell Ring k n) (sym e) (is.0, cell_with_number_is_ok Ring k n cell.index number)
ring_result k n (Err why) s e is only =
    let none = cell_with_number-none Ring k n (λ j high has. true≢false (sym (ap is_ok (only j high has)))) in
    subst (FindsCell Ring k n) (sym e) (no_cell Ring k n RingTooLarge none refl)

-- the NUNIQ number of a cell of the order
pub uniq : (k n : ℕ) (cell : CellNumber) → IsCell cell → uniq_of cell ≡ n → cell.order ≡ k
    → cell_or_error Uniq k n ≡ Ok cell.index
uniq k n cell is has same =
    let high : cell.index < cell_count k = subst (λ k. cell.index < cell_count k) same is.index_in_range in
    let number : 4 ^ (k + 1) + cell.index ≡ n = subst (λ k. 4 ^ (k + 1) + cell.index ≡ n) same has in
    let is_found = cell_with_number-some Uniq k n cell.index high number (λ j below other. omega (arith, number, other)) in
    cell_with_number_is_ok Uniq k n cell.index is_found

-- the NUNIQ number of a cell of another order
pub other_uniq : {E : Type 0} (k n : ℕ) (cell : CellNumber) → k ≤ 29 → (4 ≤ n) × (n < 2 ^ 62)
    → ((c : CellNumber) → IsCell c → uniq_of c ≡ n → ◌≡◌ {A = Result CellNumber E} (Ok cell) (Ok c))
    → cell.order ≢ k → cell_or_error Uniq k n ≡ Err OtherOrder
other_uniq k n cell small range only other =
    let none = cell_with_number-none Uniq k n (λ j below has.
    let is_cell : IsCell (cell_number k j) = record { order_in_range = small; index_in_range = below } in
    other (ap result_order (only (cell_number k j) is_cell has))) in
    no_cell Uniq k n OtherOrder none (grind (arith, nat_tests, range))

-- a NUNIQ number is at least 4 and has 62 bits
uniq_range : (k j : ℕ) → k ≤ 29 → j < cell_count k
    → (4 ≤ uniq_of (cell_number k j)) × (uniq_of (cell_number k j) < 2 ^ 62)
uniq_range k j small below =
    let first : 1 ≤ k + 1 = omega arith in
    let least : 4 ^ 1 ≤ 4 ^ (k + 1) = pow-le-pow_right (lit< tt) first in
    let most : 4 ^ k ≤ 4 ^ 29 = pow-le-pow_right (lit< tt) small in
    let next : 4 ^ (k + 1) ≡ 4 ^ k * 4 ^ 1 = pow-add 4 k 1 in
    (omega (arith, least), omega (arith, most, next, below))

-- a number that is not a NUNIQ number
pub no_uniq : (k n : ℕ) → k ≤ 29 → ((4 ≤ n) × (n < 2 ^ 62) → ⊥) → cell_or_error Uniq k n ≡ Err NotUniq
no_uniq k n small out =
    let in_range = λ (j : ℕ) (below : j < cell_count k) (has : uniq_of (cell_number k j) ≡ n).
    subst (λ n. (4 ≤ n) × (n < 2 ^ 62)) has (uniq_range k j small below) in
    let none = cell_with_number-none Uniq k n (λ j below has. out (in_range j below has)) in
    no_cell Uniq k n NotUniq none (grind (arith, nat_tests, out))

-- each number of a cell is below the greatest number of 64 bits
number_range : (v : Numbering) (k j : ℕ) → k ≤ 29 → j < cell_count k → cell_number_in v k j < 2 ^ 64 - 1
unfolding ring_number
number_range Nest k j small below =
    let most : 4 ^ k ≤ 4 ^ 29 = pow-le-pow_right (lit< tt) small in
    omega (arith, most, below)
number_range Ring k j small below =
    let most : 4 ^ k ≤ 4 ^ 29 = pow-le-pow_right (lit< tt) small in
    let fits = count_by-le-length (λ i. precedes k i j) (range_with_len 0 (cell_count k)) in
    let long = length-range_with_len 0 (cell_count k) in
    omega (arith, most, fits, long)
number_range Uniq k j small below = omega (arith, (uniq_range k j small below).1)

-- no cell has a greater number
no_cell_with_largest_number : (v : Numbering) (k n : ℕ) → k ≤ 29 → 2 ^ 64 - 1 ≤ n → cell_with_number v k n ≡ None
no_cell_with_largest_number v k n small high = cell_with_number-none v k n (λ j below has. omega (arith, number_range v k j small below, has, high))

far_error : (v : Numbering) (n : ℕ) → 2 ^ 64 - 1 ≤ n → number_error v n ≡ number_error v (2 ^ 64 - 1)
far_error Nest n high = refl
far_error Ring n high = refl
far_error Uniq n high = grind (arith, nat_tests, high)

-- a number saturated at 64 bits gives the same cell or error
saturated_same_result : (v : Numbering) (k n : ℕ) → k ≤ 29 → cell_or_error v k (min n (2 ^ 64 - 1)) ≡ cell_or_error v k n
saturated_same_result v k n small =
    elim (cases_lt n (2 ^ 64 - 1)) [
      | inl low ↦ let held : min n (2 ^ 64 - 1) ≡ n = omega (arith, low) in ap (cell_or_error v k) held
      | inr high ↦
          let held : min n (2 ^ 64 - 1) ≡ 2 ^ 64 - 1 = omega (arith, high) in
          ap (cell_or_error v k) held
          ∙ no_cell v k (2 ^ 64 - 1) (number_error v n) (no_cell_with_largest_number v k (2 ^ 64 - 1) small (omega arith)) (far_error v n high)
          ∙ sym (no_cell v k n (number_error v n) (no_cell_with_largest_number v k n small high) refl)
    ]

-- a saturated number gives the same result
saturated_result : (r : Renumbering) (read : Result ℕ NumberError) → r.order ≤ 29
    → (result_map_both (λ n. min n (2 ^ 64 - 1)) (λ error. error) read >>= converted_number r) ≡ (read >>= converted_number r)
saturated_result r (Err error) small = refl
saturated_result r (Ok n) small = ap (λ c. c >>= (λ i. Ok (cell_number_in r.to r.order i))) (saturated_same_result r.from r.order n small)

-- the result if such a number was read
pub converted_by_bind : (r : Renumbering) (read : Result ℕ NumberError) (n : ℕ) → r.order ≤ 29
    → Ok n ≡ result_map_both (λ n. min n (2 ^ 64 - 1)) (λ error. error) read → converted_number r n ≡ (read >>= converted_number r)
converted_by_bind r read n small held = ap (λ c. c >>= converted_number r) held ∙ saturated_result r read small
