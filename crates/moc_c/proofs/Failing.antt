-- The first number of an array that fails a test, and its error.
use Rattle.std.proofs.Common.{◌≡◌, ℕ, zero, suc, ◌+◌, ◌<◌, ◌≤◌, ◌^◌, Bool, true, false, nat_le, nat_lt, List, [], ◌∷◌, length, get_or, Option, None, Some, Result, option_map, refl, sym, ap, ◌∙◌, arith, eq-eqb, Ok, Err, map}
use Rattle.std.proofs.lemmas.Bool.Decides.{nat_tests}
use Rattle.std.specs.Option.{option_map_or, option_or}
use Rattle.moc_sphere.specs.CellNumber.{cell_count, cell_number, is_uniq}
use Rattle.moc_ranges.specs.Cells.{pixels_of}
use Rattle.moc_lists.specs.RangeList.{NumberSet}
use Rattle.moc_c.specs.Buffers.{cells_error, set_of_cells_or_error, success_unless, first_error_at, lengths_error, numbers_error, uniqs_error}
use Rattle.moc_c.specs.CallResults.{success, result_of}
use Rattle.moc_c.specs.declared.call_result.CallResult.{CallResult}
use Rattle.moc_c.specs.declared.error.CallError.{CallError}
use Rattle.moc_c.specs.declared.error.CallError.TheVariants as error

module _ (test : ℕ → Bool) where
  pub failing_none : (at : ℕ) (xs : List ℕ) → ((k : ℕ) → k < length xs → test (get_or xs k 0) ≡ true) → first_error_at test at xs ≡ None
  failing_none at [] h = refl
  failing_none at (x ∷ xs) h = rw (h 0 (omega arith)) (failing_none (at + 1) xs (λ k lt. h (suc k) (omega arith)))

  pub failing_some : (at : ℕ) (xs : List ℕ) (i : ℕ) → i < length xs → ((k : ℕ) → k < i → test (get_or xs k 0) ≡ true) → test (get_or xs i 0) ≡ false
      → first_error_at test at xs ≡ Some (at + i)
  failing_some at [] i lt h fails = absurd (omega arith)
  failing_some at (x ∷ xs) zero lt h fails = rw fails (ap (λ n. Some n) (omega arith))
  failing_some at (x ∷ xs) (suc i) lt h fails =
      rw (h 0 (omega arith)) (failing_some (at + 1) xs i (omega arith) (λ k below. h (suc k) (omega arith)) fails ∙ ap (λ n. Some n) (omega arith))

-- whether the order has a cell with this index
abbrev is_index : ℕ → ℕ → Bool
is_index order x = nat_lt x (cell_count order)

-- the set of cells that have this error, if they have one
abbrev numbers_or_error : Option CallError → ℕ → List ℕ → Result NumberSet CallError
numbers_or_error f order xs = option_map_or (λ e. Err e) f (Ok (pixels_of (map (cell_number order) xs)))

index_true : (order x : ℕ) → x < cell_count order → is_index order x ≡ true
index_true order x lt = grind (arith, nat_tests)

index_false : (order x : ℕ) → cell_count order ≤ x → is_index order x ≡ false
index_false order x le = grind (arith, nat_tests)

uniq_true : (x : ℕ) → 4 ≤ x → x < 2 ^ 62 → is_uniq x ≡ true
uniq_true x low high = grind (arith, nat_tests)

pub cells_none : (order : ℕ) (xs : List ℕ) → ((k : ℕ) → k < length xs → get_or xs k 0 < cell_count order) → cells_error order xs ≡ None
cells_none order xs h =
    ap (option_map (λ at. error.NoSuchCell at)) (failing_none (is_index order) 0 xs (λ k lt. index_true order (get_or xs k 0) (h k lt)))

pub cells_some : (order : ℕ) (xs : List ℕ) (i : ℕ) → i < length xs → ((k : ℕ) → k < i → get_or xs k 0 < cell_count order) → cell_count order ≤ get_or xs i 0
    → cells_error order xs ≡ Some (error.NoSuchCell i)
cells_some order xs i lt h fails =
    ap (option_map (λ at. error.NoSuchCell at)) (failing_some (is_index order) 0 xs i lt (λ k below. index_true order (get_or xs k 0) (h k below)) (index_false order (get_or xs i 0) fails)) ∙ ap (λ n. Some (error.NoSuchCell n)) (omega arith)

pub uniqs_none : (xs : List ℕ) → ((k : ℕ) → k < length xs → (4 ≤ get_or xs k 0) × (get_or xs k 0 < 2 ^ 62)) → uniqs_error xs ≡ None
uniqs_none xs h = ap (option_map (λ at. error.NotUniq at)) (failing_none is_uniq 0 xs (λ k lt. uniq_true (get_or xs k 0) (h k lt).0 (h k lt).1))

not_both : (x : ℕ) → ((4 ≤ x) × (x < 2 ^ 62) → ⊥) → is_uniq x ≡ false
not_both x h = elim (nat_le 4 x) as (λ b. nat_le 4 x ≡ b → is_uniq x ≡ false) [
  | true ↦ λ e. elim (nat_lt x (2 ^ 62)) as (λ b. nat_lt x (2 ^ 62) ≡ b → is_uniq x ≡ false) [
    | true ↦ λ f. absurd (h (grind (arith, nat_tests), grind (arith, nat_tests)))
    | false ↦ λ f. rw (e, f) refl
  ] refl
  | false ↦ λ e. rw e refl
] refl

pub uniqs_some : (xs : List ℕ) (i : ℕ) → i < length xs → ((k : ℕ) → k < i → (4 ≤ get_or xs k 0) × (get_or xs k 0 < 2 ^ 62))
    → ((4 ≤ get_or xs i 0) × (get_or xs i 0 < 2 ^ 62) → ⊥) → uniqs_error xs ≡ Some (error.NotUniq i)
uniqs_some xs i lt h fails =
    ap (option_map (λ at. error.NotUniq at)) (failing_some is_uniq 0 xs i lt (λ k below. uniq_true (get_or xs k 0) (h k below).0 (h k below).1) (not_both (get_or xs i 0) fails)) ∙ ap (λ n. Some (error.NotUniq n)) (omega arith)

-- a valid order and equal lengths leave the errors of the numbers
pub numbers_left : (order : ℕ) (xs ls : List ℕ) → order ≤ 29 → lengths_error (length xs) ls ≡ None → numbers_error order xs ls ≡ cells_error order xs
numbers_left order xs ls le same = let is : nat_le order 29 ≡ true = grind (arith, nat_tests) in rw (is, same) refl

pub one_length : (n a : ℕ) → n ≡ a → lengths_error n (a ∷ []) ≡ None
one_length n a e = rw (eq-eqb n a e) refl

pub two_lengths : (n a b : ℕ) → n ≡ a → n ≡ b → lengths_error n (a ∷ b ∷ []) ≡ None
two_lengths n a b e f = rw (eq-eqb n a e, eq-eqb n b f) refl

pub three_lengths : (n a b d : ℕ) → n ≡ a → n ≡ b → n ≡ d → lengths_error n (a ∷ b ∷ d ∷ []) ≡ None
three_lengths n a b d e f g = rw (eq-eqb n a e, eq-eqb n b f, eq-eqb n d g) refl

-- the indices before the first invalid one are converted
pub cells_stop : (order : ℕ) (xs ls : List ℕ) (i : ℕ) (o : CallResult) → order ≤ 29 → lengths_error (length xs) ls ≡ None → i < length xs
    → ((k : ℕ) → k < i → get_or xs k 0 < cell_count order) → cell_count order ≤ get_or xs i 0 → o ≡ result_of (error.NoSuchCell i)
    → o ≡ success_unless (numbers_error order xs ls)
cells_stop order xs ls i o le same lt h fails is =
    is ∙ sym (ap success_unless (numbers_left order xs ls le same ∙ cells_some order xs i lt h fails))

-- or all of them are
pub cells_end : (order : ℕ) (xs ls : List ℕ) (i : ℕ) (o : CallResult) → order ≤ 29 → lengths_error (length xs) ls ≡ None → length xs ≤ i
    → ((k : ℕ) → k < i → get_or xs k 0 < cell_count order) → o ≡ success → o ≡ success_unless (numbers_error order xs ls)
cells_end order xs ls i o le same end h is =
    is ∙ sym (ap success_unless (numbers_left order xs ls le same ∙ cells_none order xs (λ k lt. h k (omega arith))))

-- the same for NUNIQ numbers
pub uniqs_stop : (xs ls : List ℕ) (i : ℕ) (o : CallResult) → lengths_error (length xs) ls ≡ None → i < length xs
    → ((k : ℕ) → k < i → (4 ≤ get_or xs k 0) × (get_or xs k 0 < 2 ^ 62)) → ((4 ≤ get_or xs i 0) × (get_or xs i 0 < 2 ^ 62) → ⊥)
    → o ≡ result_of (error.NotUniq i) → o ≡ success_unless (option_or (lengths_error (length xs) ls) (uniqs_error xs))
uniqs_stop xs ls i o same lt h fails is =
    is ∙ sym (ap success_unless (ap (λ x. option_or x (uniqs_error xs)) same ∙ uniqs_some xs i lt h fails))

pub uniqs_end : (xs ls : List ℕ) (i : ℕ) (o : CallResult) → lengths_error (length xs) ls ≡ None → length xs ≤ i
    → ((k : ℕ) → k < i → (4 ≤ get_or xs k 0) × (get_or xs k 0 < 2 ^ 62)) → o ≡ success
    → o ≡ success_unless (option_or (lengths_error (length xs) ls) (uniqs_error xs))
uniqs_end xs ls i o same end h is =
    is ∙ sym (ap success_unless (ap (λ x. option_or x (uniqs_error xs)) same ∙ uniqs_none xs (λ k lt. h k (omega arith))))

-- ---- sets from arrays

pub cells_below_count : (order : ℕ) (xs : List ℕ) (i : ℕ) (a : NumberSet) → order ≤ 29 → length xs ≤ i → ((k : ℕ) → k < i → get_or xs k 0 < cell_count order)
    → a ≡ pixels_of (map (cell_number order) xs) → set_of_cells_or_error order xs ≡ Ok a
cells_below_count order xs i a le end h is =
    ap (λ f. numbers_or_error f order xs) (numbers_left order xs [] le refl ∙ cells_none order xs (λ k lt. h k (omega arith))) ∙ ap (λ (b : NumberSet). Ok b) (sym is)

pub cell_out_of_range : (order : ℕ) (xs : List ℕ) (i : ℕ) → order ≤ 29 → i < length xs → ((k : ℕ) → k < i → get_or xs k 0 < cell_count order)
    → cell_count order ≤ get_or xs i 0 → set_of_cells_or_error order xs ≡ Err (error.NoSuchCell i)
cell_out_of_range order xs i le lt h fails =
    ap (λ f. numbers_or_error f order xs) (numbers_left order xs [] le refl ∙ cells_some order xs i lt h fails)
