-- The indices of the cells of an order, written run by run.
use Rattle.std.proofs.Common.{◌≡◌, ℕ, suc, ◌+◌, ◌-◌, ◌%◌, ◌^◌, ◌<◌, ◌≤◌, Bool, true, cond, List, [], ◌∷◌, ◌++◌, map, Option, Some, length, drop, get_or, refl, sym, ap, ◌∙◌, subst, arith, append_assoc}
use Rattle.std.specs.Prelude.{decimal}
use Rattle.std.specs.List.{range_with_len}
use Rattle.std.proofs.lemmas.Bool.{eq-eqb, ne_eqb}
use Rattle.std.proofs.lemmas.Fmt.{decimal_by_steps}
use Rattle.std.proofs.lemmas.Grind.{flat_map-append}
use Rattle.std.proofs.lemmas.List.{drop_more}
use Rattle.json.specs.Print.{escape, escape_byte, quoted}
use Rattle.json.proofs.Printed.Strings.{escape_byte_plain}
use Rattle.serde_json.specs.Data.{array, Members, member}
use Rattle.serde_json.specs.View.{items_of}
use Rattle.serde_json.specs.Written.{comma_if, members_text}
use Rattle.moc_sphere.specs.CellNumber.{CellNumber, cell_number}
use Rattle.moc_ranges.specs.Cells.{HaveOrders, cells_in, cells_of_range}
use Rattle.moc_lists.specs.RangeList.{IsNormal}
use Rattle.moc_text.specs.JsonText.{datum, data_at, is_name}
use Rattle.moc_text.specs.Private.JsonWriting.{array_rest, prepend_member, members_in_order}
use Rattle.moc_text.proofs.Runs.{of_order}

-- digits need no escape
digit_plain : (d : ℕ) → d < 10 → escape ((48 + d) ∷ []) ≡ (48 + d) ∷ []
digit_plain d lt = ap (λ (l : List ℕ). l ++ []) (escape_byte_plain (48 + d) (λ e. omega (arith, e)) (λ e. omega (arith, e)) (omega arith))

pub escape-decimal : (n : ℕ) → n < 2 ^ 64 → escape (decimal n) ≡ decimal n
escape-decimal =
    decimal_by_steps (λ n ds. escape ds ≡ ds) digit_plain
    (λ n ds le is. flat_map-append escape_byte ds ((48 + n % 10) ∷ []) ∙ (λ i. is i ++ digit_plain (n % 10) (omega arith) i))

-- one more number
pub number_more : (k i end : ℕ) (rest : List CellNumber) (old new : List ℕ) → i < end → new ≡ old ++ 44 ∷ decimal i
    → new ++ array_rest (cells_of_range k (i + 1, end) ++ rest) ≡ old ++ array_rest (cells_of_range k (i, end) ++ rest)
number_more k i end rest old new lt is =
    let more : suc (end - (i + 1)) ≡ end - i = omega arith in
    ap (λ (t : List ℕ). t ++ array_rest (cells_of_range k (i + 1, end) ++ rest)) is
    ∙ append_assoc old (44 ∷ decimal i) (array_rest (cells_of_range k (i + 1, end) ++ rest))
    ∙ ap (λ n. old ++ array_rest (map (cell_number k) (range_with_len i n) ++ rest)) more

-- an order without cells
pub no_cells_of : (first last k : ℕ) (cells : List CellNumber) → HaveOrders first last cells → (first ≤ k → k < last → ⊥) → of_order k cells ≡ []
no_cells_of first last k [] all none = refl
no_cells_of first last k (c ∷ cells) all none =
    rw (ne_eqb c.order k (λ e. none (omega (arith, (all.0).0, e)) (omega (arith, (all.0).1, e)))) (no_cells_of first last k cells all.1 none)

-- ---- one order

pub name_written : (old comma name escaped : List ℕ) → escaped ≡ name → ((old ++ comma) ++ 34 ∷ name) ++ 34 ∷ 58 ∷ [] ≡ ((old ++ comma) ++ 34 ∷ (escaped ++ 34 ∷ [])) ++ 58 ∷ []
name_written old comma name escaped is = rw is (regroup (old ++ comma) name)
  where
    regroup : (a b : List ℕ) → (a ++ 34 ∷ b) ++ 34 ∷ 58 ∷ [] ≡ (a ++ 34 ∷ (b ++ 34 ∷ [])) ++ 58 ∷ []
    regroup a b = simp append_assoc

-- an order that is written without cells
pub empty_order_written : (k : ℕ) (empty_order : Option ℕ) (behind : Bool) (old named whole : List ℕ) (members : Members) → empty_order ≡ Some k
    → named ≡ ((old ++ comma_if behind) ++ quoted (decimal k)) ++ 58 ∷ [] → whole ≡ named ++ 91 ∷ 93 ∷ []
    → whole ++ members_text true members ≡ old ++ members_text behind (prepend_member k empty_order [] members)
empty_order_written k empty_order behind old named whole members is name empty =
    ap (λ (t : List ℕ). t ++ members_text true members) (empty ∙ ap (λ (t : List ℕ). t ++ 91 ∷ 93 ∷ []) name)
    ∙ regroup old (comma_if behind) (quoted (decimal k)) (members_text true members)
    ∙ ap (λ (v : Bool). old ++ members_text behind (cond v (member (decimal k) (array (items_of [])) members) members)) (sym (eq-eqb k k refl) ∙ ap (λ (x : Option ℕ). is_name k x []) (sym is))
  where
    regroup : (a b c d : List ℕ) → ((((a ++ b) ++ c) ++ 58 ∷ []) ++ 91 ∷ 93 ∷ []) ++ d ≡ a ++ (b ++ (c ++ 58 ∷ 91 ∷ 93 ∷ d))
    regroup a b c d = simp append_assoc

-- The name of an order, the first index of its first run, the other indices of this run, and those of the other runs
-- are the whole member of the order.
pub order_written : (k : ℕ) (empty_order : Option ℕ) (behind : Bool) (x : ℕ × ℕ) (s ps : List (ℕ × ℕ)) (here : List CellNumber) (old named begun more whole : List ℕ) (members : Members) → IsNormal s → s ≡ x ∷ ps → cells_in k s ≡ here
    → named ≡ ((old ++ comma_if behind) ++ quoted (decimal k)) ++ 58 ∷ [] → begun ≡ named ++ 91 ∷ decimal x.0
    → ((k : ℕ) (rest : List CellNumber) → more ++ array_rest rest ≡ begun ++ array_rest (cells_of_range k (x.0 + 1, x.1) ++ rest)) → ((k : ℕ) → whole ≡ more ++ array_rest (cells_in k ps))
    → whole ++ members_text true members ≡ old ++ members_text behind (prepend_member k empty_order (map datum here) members)
order_written k empty_order behind x s ps here old named begun more whole members normal parts is name start run runs =
    let rest = cells_of_range k (x.0 + 1, x.1) ++ cells_in k ps in
    let first = subst (λ (rs : List (ℕ × ℕ)). IsNormal rs) parts normal in
    let many : x.1 - x.0 ≡ suc (x.1 - (x.0 + 1)) = omega (arith, first.0) in
    let cells : here ≡ cell_number k x.0 ∷ rest = sym is ∙ ap (cells_in k) parts ∙ ap (λ n. map (cell_number k) (range_with_len x.0 n) ++ cells_in k ps) many in
    ap (λ (t : List ℕ). t ++ members_text true members)
    (runs k ∙ run k (cells_in k ps) ∙ ap (λ (t : List ℕ). t ++ array_rest rest) (start ∙ ap (λ (t : List ℕ). t ++ 91 ∷ decimal x.0) name))
    ∙ regroup old (comma_if behind) (quoted (decimal k)) (decimal x.0) (array_rest rest) (members_text true members)
    ∙ ap (λ (l : List CellNumber). old ++ members_text behind (prepend_member k empty_order (map datum l) members)) (sym cells)
  where
    regroup : (a b c d e f : List ℕ) → (((((a ++ b) ++ c) ++ 58 ∷ []) ++ 91 ∷ d) ++ e) ++ f ≡ a ++ (b ++ (c ++ 58 ∷ 91 ∷ ((d ++ e) ++ f)))
    regroup a b c d e f = simp append_assoc

-- ---- one order after another

pub orders_more : (cells : List CellNumber) (empty_order : Option ℕ) (i : ℕ) (ks : List ℕ) (behind after : Bool) (old new whole : List ℕ) → i < length ks
    → ((members : Members) → new ++ members_text after members ≡ old ++ members_text behind (prepend_member (get_or ks i 0) empty_order (data_at (get_or ks i 0) cells) members))
    → old ++ members_text behind (members_in_order cells empty_order (drop i ks)) ≡ whole → new ++ members_text after (members_in_order cells empty_order (drop (i + 1) ks)) ≡ whole
orders_more cells empty_order i ks behind after old new whole lt step so_far =
    step (members_in_order cells empty_order (drop (i + 1) ks))
    ∙ ap (λ (js : List ℕ). old ++ members_text behind (members_in_order cells empty_order js)) (sym (drop_more ks i 0 lt))
    ∙ so_far
