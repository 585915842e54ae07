-- The cell of two fields.
use Rattle.std.proofs.Common.{◌≡◌, ℕ, List, ◌-◌, ◌^◌, ◌<◌, ◌≤◌, cond, ltb, min, Option, Some, None, Result, Ok, Err}
use Rattle.std.proofs.Common.{sym, ap, ◌∙◌, arith, lit<}
use Rattle.std.proofs.Math.Nat.{pow-le-pow_right}
use Rattle.std.proofs.lemmas.Bool.Decides.{nat_tests}
use Rattle.std.specs.Option.{option_map, ok_or}
use Rattle.moc_sphere.specs.CellNumber.{CellNumber, cell_number, cell_count}
use Rattle.moc_parts.specs.declared.command.Command.{Command}
use Rattle.moc_parts.specs.declared.command.Command.TheVariants.{Near}
use Rattle.moc_lines.specs.Language.{decimal_value, ◌>>=◌}
use Rattle.moc_lines.specs.Private.Verbs.{near_command}
use Rattle.moc_lines.specs.declared.error.LineError.{LineError}
use Rattle.moc_lines.specs.declared.error.LineError.TheVariants.{BadNumber, OrderTooLarge, CellTooLarge}

-- the result of parsing a cell
abbrev answer_of : CellNumber → Result Command LineError
answer_of cell = Ok (Near cell)

-- the command for a cell of an order, if both exist
abbrev near_at : ℕ → ℕ → Result Command LineError
near_at k i = cond (ltb 29 k) (Err OrderTooLarge) (cond (ltb i (cell_count k)) (Ok (Near (cell_number k i))) (Err CellTooLarge))

-- a saturated number below the maximum is the number
saturated_number : (spelled : Option ℕ) (held : ℕ) → Some held ≡ option_map (λ n. min n (2 ^ 64 - 1)) spelled → held < 2 ^ 64 - 1 → spelled ≡ Some held
saturated_number None held e small = absurd cc
saturated_number (Some n) held e small =
    let is : held ≡ min n (2 ^ 64 - 1) = cc in
    let same : n ≡ held = omega arith in
    ap (λ (m : ℕ). Some m) same

cells_fit : (k : ℕ) → k ≤ 29 → cell_count k < 2 ^ 64 - 1
cells_fit k small =
    let most : 4 ^ k ≤ 4 ^ 29 = pow-le-pow_right (lit< tt) small in
    omega arith

near_at_cell : (k i : ℕ) → k ≤ 29 → i < cell_count k → near_at k i ≡ Ok (Near (cell_number k i))
near_at_cell k i small below = grind (arith, nat_tests)

-- both numbers, if there are both
abbrev numbers_of : Option ℕ → Option ℕ → Result (ℕ × ℕ) LineError
numbers_of order index = ok_or order BadNumber >>= (λ k. ok_or index BadNumber >>= (λ i. Ok (k, i)))

-- two fields with an order and the index of one of its cells name that cell
pub near_is : (order index : List ℕ) (k i : ℕ) → k ≤ 29 → i < cell_count k
    → Some k ≡ option_map (λ n. min n (2 ^ 64 - 1)) (decimal_value order) → Some i ≡ option_map (λ n. min n (2 ^ 64 - 1)) (decimal_value index)
    → near_command order index ≡ Ok (Near (cell_number k i))
near_is order index k i small below e f =
    let order_is : decimal_value order ≡ Some k = saturated_number (decimal_value order) k e (omega arith) in
    let index_is : decimal_value index ≡ Some i = saturated_number (decimal_value index) i f (omega (arith, cells_fit k small)) in
    (λ t. numbers_of (order_is t) (index_is t) >>= (λ both. near_at both.0 both.1)) ∙ near_at_cell k i small below

-- the result for a cell under its two names
pub same_answer : (k o i : ℕ) (cell : CellNumber) → o ≡ k → cell ≡ cell_number o i → answer_of (cell_number k i) ≡ answer_of cell
same_answer k o i cell order number = (λ t. answer_of (cell_number (sym order t) i)) ∙ sym (ap answer_of number)
