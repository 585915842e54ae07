-- The lines of a NUNIQ list, one by one.
use Rattle.std.proofs.Common.{◌≡◌, ℕ, suc, ◌+◌, ◌-◌, ◌*◌, ◌^◌, ◌<◌, ◌≤◌, Bool, true, false, cond, not, ◌&&◌, eqb, List, [], ◌∷◌, ◌++◌, length, map, min, Option, Some, None, refl, sym, ap, ◌∙◌, arith, length-append, append_assoc, pow-suc, lit<, inl, inr}
use Rattle.std.specs.Prelude.{decimal}
use Rattle.std.specs.Char.{is_ascii_digit}
use Rattle.std.specs.List.{AllByRecursion, flat_map, onto_first}
use Rattle.std.specs.Str.{all_ascii_digits}
use Rattle.std.specs.Option.{option_or}
use Rattle.std.specs.FinSet as set
use Rattle.std.specs.Str.Parse.{digits_value}
use Rattle.std.proofs.Math.Nat.{pow-le-pow_right}
use Rattle.std.proofs.lemmas.Bool.{cases_lt, cases_order, eqb-true, le-leb, le-ltb, lt-leb, lt-ltb}
use Rattle.std.proofs.lemmas.Bool.Decides.{nat_tests}
use Rattle.std.proofs.lemmas.List.{append-nil, map-append}
use Rattle.std.proofs.lemmas.List.Folds.{flat_map-map}
use Rattle.moc_sphere.specs.CellNumber.{CellNumber, cell_number, is_uniq, IsCell, uniq_of}
use Rattle.moc_lists.specs.RangeList.{NumberSet}
use Rattle.moc_ranges.specs.Operations.{pixels, IsWithin}
use Rattle.moc_ranges.specs.Cells.{span, pixels_of, cells_of}
use Rattle.moc_ranges.specs.Lemmas.Cells.{cells_are}
use Rattle.moc_ranges.specs.Lemmas.{pixels_of-append, cells_fill, union-assoc, empty-union, union-empty}
use Rattle.moc_text.specs.Ascii.{IsNumber}
use Rattle.moc_text.specs.Private.Scan.{leading_digits, after_digits, saturated_value, starts_with_digit}
use Rattle.moc_text.specs.Lines.{lines_of}
use Rattle.moc_ranges.specs.Errors.{first_error_of}
use Rattle.moc_text.specs.UniqList.{uniq_line_error, uniq_error, numbers_on, RepresentsUniq, uniq_text}
use Rattle.moc_text.specs.Private.UniqReading.{after_line_feed, IsPart, AreLinesRead, IsLineRead}
use Rattle.moc_text.specs.declared.uniq.UniqError.{UniqError}
use Rattle.moc_text.specs.declared.uniq.UniqError.TheVariants.{BadByte, NotUniq}
use Rattle.moc_text.proofs.Automaton.{both_true}
use Rattle.moc_text.proofs.Held.{saturated_value_is_capped}
use Rattle.moc_text.proofs.Scanning.{digits-split, front-digits, past-digits}
use Rattle.moc_text.proofs.Written.{IsNumber-decimal, value-decimal}

-- ---- NUNIQ numbers

next_power_of_four : (k : ℕ) → 4 ^ suc k ≡ 4 * 4 ^ k
next_power_of_four k = omega (arith, pow-suc 4 k)

uniq_bounds : (c : CellNumber) → IsCell c → (4 ^ (c.order + 1) ≤ uniq_of c) × (uniq_of c < 4 ^ (c.order + 2))
uniq_bounds c h =
    let one : c.order + 1 ≡ suc c.order = omega arith in
    let two : c.order + 2 ≡ suc (suc c.order) = omega arith in
    let i = h.index_in_range in
    (omega arith, rw (one, two) (omega (arith, next_power_of_four c.order, next_power_of_four (suc c.order))))

pub uniq_some : (c : CellNumber) → 0 < uniq_of c
uniq_some c =
    let none : 0 ≤ c.order + 1 = omega arith in
    let low : 4 ^ 0 ≤ 4 ^ (c.order + 1) = pow-le-pow_right (lit< tt) none in
    omega (arith, low)

-- the numbers of cells are those from 4 up to but not including 2^62
pub uniq_range : (c : CellNumber) → IsCell c → (4 ≤ uniq_of c) × (uniq_of c < 2 ^ 62)
uniq_range c h =
    let b = uniq_bounds c h in
    let first : 1 ≤ c.order + 1 = omega arith in
    let last : c.order + 2 ≤ 31 = omega (arith, h.order_in_range) in
    let low : 4 ^ 1 ≤ 4 ^ (c.order + 1) = pow-le-pow_right (lit< tt) first in
    let high : 4 ^ (c.order + 2) ≤ 4 ^ 31 = pow-le-pow_right (lit< tt) last in
    (omega (arith, low, b.0), omega (arith, high, b.1))

same_order : (j k u : ℕ) → 4 ^ (j + 1) ≤ u → u < 4 ^ (j + 2) → 4 ^ (k + 1) ≤ u → u < 4 ^ (k + 2) → j ≡ k
same_order j k u a b c d =
    elim (cases_order j k) [
      | inl e ↦ e
      | inr (inl l) ↦ absurd (clash (j + 2) (k + 1) (pow-le-pow_right (lit< tt) (omega arith)) b c)
      | inr (inr l) ↦ absurd (clash (k + 2) (j + 1) (pow-le-pow_right (lit< tt) (omega arith)) d a)
    ]
  where
    clash : (m n : ℕ) → 4 ^ m ≤ 4 ^ n → u < 4 ^ m → 4 ^ n ≤ u → ⊥
    clash m n l a b = omega arith

-- a number is that of at most one cell
cell_of_uniq_is_unique : (c d : CellNumber) → IsCell c → IsCell d → uniq_of c ≡ uniq_of d → c ≡ d
cell_of_uniq_is_unique c d h k e =
    let a = uniq_bounds c h in
    let b = uniq_bounds d k in
    let order : c.order ≡ d.order = same_order c.order d.order (uniq_of d) (omega (arith, a.0, e)) (omega (arith, a.1, e)) b.0 b.1 in
    let power : 4 ^ (c.order + 1) ≡ 4 ^ (d.order + 1) = ap (λ n. 4 ^ (n + 1)) order in
    let index : c.index ≡ d.index = omega (arith, power, e) in
    ap (λ n. cell_number n c.index) order ∙ ap (λ n. cell_number d.order n) index

same_cells : (cs ds : List CellNumber) → AllByRecursion IsCell cs → AllByRecursion IsCell ds → map uniq_of cs ≡ map uniq_of ds → cs ≡ ds
same_cells [] [] h k e = refl
same_cells [] (d ∷ ds) h k e = absurd cc
same_cells (c ∷ cs) [] h k e = absurd cc
same_cells (c ∷ cs) (d ∷ ds) h k e =
    let first : uniq_of c ≡ uniq_of d = cc in
    let others : map uniq_of cs ≡ map uniq_of ds = cc in
    ap (λ (x : CellNumber). x ∷ cs) (cell_of_uniq_is_unique c d h.0 k.0 first) ∙ ap (λ (xs : List CellNumber). d ∷ xs) (same_cells cs ds h.1 k.1 others)

-- ---- the first line

digit_no_end : (d : ℕ) → is_ascii_digit d ≡ true → eqb d 10 ≡ false
digit_no_end d h = grind (arith, nat_tests)

-- digits that end with LF
lines_after_digits : (ds rest : List ℕ) → all_ascii_digits ds ≡ true → lines_of (ds ++ 10 ∷ rest) ≡ ds ∷ lines_of rest
lines_after_digits [] rest h = refl
lines_after_digits (d ∷ ds) rest h =
    let p = both_true (is_ascii_digit d) (all_ascii_digits ds) h in
    rw (digit_no_end d p.0) (ap (onto_first d) (lines_after_digits ds rest p.1))

-- digits that end with the text
lines_last : (ds : List ℕ) → 0 < length ds → all_ascii_digits ds ≡ true → lines_of ds ≡ ds ∷ []
lines_last [] some h = absurd (omega arith)
lines_last (d ∷ []) some h =
    let p = both_true (is_ascii_digit d) true h in
    rw (digit_no_end d p.0) refl
lines_last (d ∷ e ∷ ds) some h =
    let p = both_true (is_ascii_digit d) (all_ascii_digits (e ∷ ds)) h in
    rw (digit_no_end d p.0) (ap (onto_first d) (lines_last (e ∷ ds) (omega arith) p.1))

-- the end of a line
line_end : (b : ℕ) (more rest : List ℕ) → after_line_feed (b ∷ more) ≡ Some rest → (b ≡ 10) × (more ≡ rest)
line_end b more rest h =
    elim (eqb b 10) as (λ v. eqb b 10 ≡ v → cond v (Some more) None ≡ Some rest → (b ≡ 10) × (more ≡ rest)) [
      | true ↦ λ e k. let same : more ≡ rest = cc in (eqb-true b 10 e, same)
      | false ↦ λ e k. absurd cc
    ] refl h

no_line_end : (b : ℕ) (more : List ℕ) → after_line_feed (b ∷ more) ≡ None → eqb b 10 ≡ false
no_line_end b more h = elim (eqb b 10) as (λ v. cond v (Some more) None ≡ None → v ≡ false) [ true ↦ λ k. absurd cc | false ↦ λ k. refl ] h

front_line : (ds after rest : List ℕ) → 0 < length (ds ++ after) → all_ascii_digits ds ≡ true → after_line_feed after ≡ Some rest → (lines_of (ds ++ after) ≡ ds ∷ lines_of rest) × (length rest ≤ length after)
front_line ds [] rest some h e =
    let none : [] ≡ rest = cc in
    let whole : ds ++ [] ≡ ds = append-nil ds in
    (ap lines_of whole ∙ lines_last ds (omega (arith, some, ap length whole)) h ∙ ap (λ (r : List ℕ). ds ∷ lines_of r) none, omega (arith, ap length none))
front_line ds (b ∷ more) rest some h e =
    let k = line_end b more rest e in
    (ap (λ (n : ℕ). lines_of (ds ++ n ∷ more)) k.0 ∙ lines_after_digits ds more h ∙ ap (λ (r : List ℕ). ds ∷ lines_of r) k.1, omega (arith, ap length k.1))

front_lines : (bytes rest : List ℕ) → 0 < length bytes → after_line_feed (after_digits bytes) ≡ Some rest → lines_of bytes ≡ leading_digits bytes ∷ lines_of rest
front_lines bytes rest some e =
    let split = digits-split bytes in
    ap lines_of split ∙ (front_line (leading_digits bytes) (after_digits bytes) rest (omega (arith, some, ap length split)) (front-digits bytes) e).0

-- ---- a line with a byte that is not a digit

prepend_to_first_line : (b : ℕ) (lines : List (List ℕ)) → (l : List ℕ) × (ls : List (List ℕ)) × (onto_first b lines ≡ (b ∷ l) ∷ ls)
prepend_to_first_line b [] = ([], [], refl)
prepend_to_first_line b (l ∷ ls) = (l, ls, refl)

lines_bad : (ds : List ℕ) (b : ℕ) (more : List ℕ) → all_ascii_digits ds ≡ true → eqb b 10 ≡ false → (l : List ℕ) × (ls : List (List ℕ)) × (lines_of (ds ++ b ∷ more) ≡ (ds ++ b ∷ l) ∷ ls)
lines_bad [] b more h e =
    let f = prepend_to_first_line b (lines_of more) in
    (f.0, f.1, rw e f.2)
lines_bad (d ∷ ds) b more h e =
    let p = both_true (is_ascii_digit d) (all_ascii_digits ds) h in
    let f = lines_bad ds b more p.1 e in
    (f.0, f.1, rw (digit_no_end d p.0) (ap (onto_first d) f.2))

not_digits : (ds : List ℕ) (b : ℕ) (l : List ℕ) → is_ascii_digit b ≡ false → all_ascii_digits (ds ++ b ∷ l) ≡ false
not_digits [] b l e = rw e refl
not_digits (d ∷ ds) b l e =
    ap (λ v. is_ascii_digit d && v) (not_digits ds b l e) ∙ elim (is_ascii_digit d) as (λ v. (v && false) ≡ false) [ true ↦ refl | false ↦ refl ]

bad_byte : (n : ℕ) (line : List ℕ) → all_ascii_digits line ≡ false → uniq_line_error n line ≡ Some (BadByte n)
bad_byte n [] h = absurd cc
bad_byte n (b ∷ line) h = rw h refl

bad_after : (n : ℕ) (ds after : List ℕ) → all_ascii_digits ds ≡ true → starts_with_digit after ≡ false → after_line_feed after ≡ None → first_error_of uniq_line_error n (lines_of (ds ++ after)) ≡ Some (BadByte n)
bad_after n ds [] h stops none = absurd cc
bad_after n ds (b ∷ more) h stops none =
    let f = lines_bad ds b more h (no_line_end b more none) in
    ap (first_error_of uniq_line_error n) f.2 ∙ ap (λ x. option_or x (first_error_of uniq_line_error (n + 1) f.1)) (bad_byte n (ds ++ b ∷ f.0) (not_digits ds b f.0 stops))

pub line_bad : (n : ℕ) (bytes : List ℕ) → after_line_feed (after_digits bytes) ≡ None → first_error_of uniq_line_error n (lines_of bytes) ≡ Some (BadByte n)
line_bad n bytes none = ap (λ (b : List ℕ). first_error_of uniq_line_error n (lines_of b)) (digits-split bytes) ∙ bad_after n (leading_digits bytes) (after_digits bytes) (front-digits bytes) (past-digits bytes) none

-- ---- a line of digits

no_digits : (ds : List ℕ) → length ds ≡ 0 → ds ≡ []
no_digits [] e = refl
no_digits (d ∷ ds) e = absurd (omega arith)

numbers_cons : (l : List ℕ) (ls : List (List ℕ)) → 0 < length l → numbers_on (l ∷ ls) ≡ digits_value 10 l ∷ numbers_on ls
numbers_cons [] ls some = absurd (omega arith)
numbers_cons (b ∷ l) ls some = refl

abbrev line_test : ℕ → Bool → ℕ → Option UniqError
line_test n digits v = cond (not digits) (Some (BadByte n)) (cond (is_uniq v) None (Some (NotUniq n)))

uniq_line_error_of_digits : (n : ℕ) (l : List ℕ) → 0 < length l → uniq_line_error n l ≡ line_test n (all_ascii_digits l) (digits_value 10 l)
uniq_line_error_of_digits n [] some = absurd (omega arith)
uniq_line_error_of_digits n (b ∷ l) some = refl

uniq_line_without_error : (n : ℕ) (l : List ℕ) → IsNumber l → 4 ≤ digits_value 10 l → digits_value 10 l < 2 ^ 62 → uniq_line_error n l ≡ None
uniq_line_without_error n l h low high = uniq_line_error_of_digits n l h.0 ∙ rw (h.1, le-leb 4 (digits_value 10 l) low, lt-ltb (digits_value 10 l) (2 ^ 62) high) refl

shorter : (bytes rest : List ℕ) → 0 < length bytes → after_line_feed (after_digits bytes) ≡ Some rest → length rest < length bytes
shorter bytes rest some e = shorter_parts (leading_digits bytes) (after_digits bytes) rest (omega (arith, some, ap length split)) e (ap length split)
  where
    split : bytes ≡ leading_digits bytes ++ after_digits bytes
    split = digits-split bytes

    shorter_parts : (ds after rest : List ℕ) → 0 < length (ds ++ after) → after_line_feed after ≡ Some rest → length bytes ≡ length (ds ++ after) → length rest < length bytes
    shorter_parts ds [] rest some e is = let none : [] ≡ rest = cc in omega (arith, ap length none)
    shorter_parts ds (b ∷ more) rest some e is = omega (arith, ap length (line_end b more rest e).1, length-append ds (b ∷ more))

-- an empty line
pub line_empty : (n : ℕ) (bytes rest : List ℕ) (old : NumberSet) → 0 < length bytes → after_line_feed (after_digits bytes) ≡ Some rest → length (after_digits bytes) ≡ length bytes → IsLineRead n bytes old rest old
unfolding pixels_of
line_empty n bytes rest old some e same =
    let none : leading_digits bytes ≡ [] = no_digits (leading_digits bytes) (omega (arith, same, ap length (digits-split bytes), length-append (leading_digits bytes) (after_digits bytes))) in
    let lines : lines_of bytes ≡ [] ∷ lines_of rest = front_lines bytes rest some e ∙ ap (λ (l : List ℕ). l ∷ lines_of rest) none in
    record {
      shorter = shorter bytes rest some e;
      read = record {
        part = record { cells = []; are_cells = tt; numbers = ap numbers_on lines; set_is = sym (union-empty old) };
        fault = ap (first_error_of uniq_line_error n) lines;
        number = omega (arith, ap length lines);
        within = omega (arith, shorter bytes rest some e);
      };
    }

some_digits : (bytes : List ℕ) → (length (after_digits bytes) ≡ length bytes → ⊥) → 0 < length (leading_digits bytes)
some_digits bytes h = elim (cases_lt 0 (length (leading_digits bytes))) [
  | inl lt ↦ lt
  | inr none ↦ absurd (h (omega (arith, none, ap length (digits-split bytes), length-append (leading_digits bytes) (after_digits bytes))))
]

below_top : (v top n : ℕ) → n < top → min v top ≡ n → v ≡ n
below_top v top n lt e = omega arith

-- a line with the number of a cell
pub line_cell : (n : ℕ) (bytes rest : List ℕ) (old new : NumberSet) (c : CellNumber) → 0 < length bytes → after_line_feed (after_digits bytes) ≡ Some rest → (length (after_digits bytes) ≡ length bytes → ⊥) → IsCell c → uniq_of c ≡ saturated_value 0 (leading_digits bytes)
    → new ≡ set.union old (span c.order c.index) → IsLineRead n bytes old rest new
unfolding pixels_of
line_cell n bytes rest old new c some e digits is number added =
    let ds = leading_digits bytes in
    let h : IsNumber ds = (some_digits bytes digits, front-digits bytes) in
    let range = uniq_range c is in
    let value : digits_value 10 ds ≡ uniq_of c = below_top (digits_value 10 ds) (2 ^ 64 - 1) (uniq_of c) (omega (arith, range.1)) (sym (saturated_value_is_capped ds h.1) ∙ sym number) in
    let lines = front_lines bytes rest some e in
    record {
      shorter = shorter bytes rest some e;
      read = record {
        part = record {
          cells = c ∷ [];
          are_cells = (is, tt);
          numbers = ap numbers_on lines ∙ numbers_cons ds (lines_of rest) h.0 ∙ ap (λ v. v ∷ numbers_on (lines_of rest)) value;
          set_is = added ∙ ap (set.union old) (sym (union-empty (span c.order c.index)));
        };
        fault = ap (first_error_of uniq_line_error n) lines ∙ ap (λ x. option_or x (first_error_of uniq_line_error (n + 1) (lines_of rest))) (uniq_line_without_error n ds h (omega (arith, value, range.0)) (omega (arith, value, range.1)));
        number = omega (arith, ap length lines);
        within = omega (arith, shorter bytes rest some e);
      };
    }

wrong_number : (v top : ℕ) → 2 ^ 62 ≤ top → ((4 ≤ min v top) × (min v top < 2 ^ 62) → ⊥) → is_uniq v ≡ false
wrong_number v top le h = elim (cases_lt v 4) [
  | inl low ↦ rw (lt-leb 4 v low) refl
  | inr ge ↦ elim (cases_lt v (2 ^ 62)) [
    | inl lt ↦ absurd (h (omega arith, omega arith))
    | inr high ↦ rw (le-leb 4 v ge, le-ltb v (2 ^ 62) high) refl
  ]
]

-- a line with any other number
pub line_wrong : (n : ℕ) (bytes rest : List ℕ) → 0 < length bytes → after_line_feed (after_digits bytes) ≡ Some rest → (length (after_digits bytes) ≡ length bytes → ⊥)
    → ((4 ≤ saturated_value 0 (leading_digits bytes)) × (saturated_value 0 (leading_digits bytes) < 2 ^ 62) → ⊥) → first_error_of uniq_line_error n (lines_of bytes) ≡ Some (NotUniq n)
line_wrong n bytes rest some e digits wrong =
    let ds = leading_digits bytes in
    let h : IsNumber ds = (some_digits bytes digits, front-digits bytes) in
    let saturated : saturated_value 0 ds ≡ min (digits_value 10 ds) (2 ^ 64 - 1) = saturated_value_is_capped ds h.1 in
    let w : is_uniq (digits_value 10 ds) ≡ false = wrong_number (digits_value 10 ds) (2 ^ 64 - 1) (omega arith) (λ r. wrong (omega (arith, saturated, r.0), omega (arith, saturated, r.1))) in
    let f : uniq_line_error n ds ≡ Some (NotUniq n) = uniq_line_error_of_digits n ds h.0 ∙ rw (h.1, w) refl in
    ap (first_error_of uniq_line_error n) (front_lines bytes rest some e) ∙ ap (λ x. option_or x (first_error_of uniq_line_error (n + 1) (lines_of rest))) f

-- ---- all lines

append_all : {X : Type 0} (P : X → Type 0) (xs ys : List X) → AllByRecursion P xs → AllByRecursion P ys → AllByRecursion P (xs ++ ys)
append_all P [] ys h k = k
append_all P (x ∷ xs) ys h k = (h.0, append_all P xs ys h.1 k)

part_none : (bytes : List ℕ) (old : NumberSet) → IsPart bytes old bytes old
unfolding pixels_of
part_none bytes old = record { cells = []; are_cells = tt; numbers = refl; set_is = sym (union-empty old) }

part_more : (text bytes rest : List ℕ) (start old new : NumberSet) → IsPart text start bytes old → IsPart bytes old rest new → IsPart text start rest new
part_more text bytes rest start old new p q = record {
  cells = p.cells ++ q.cells;
  are_cells = append_all IsCell p.cells q.cells p.are_cells q.are_cells;
  numbers = p.numbers ∙ ap (λ (r : List ℕ). map uniq_of p.cells ++ r) q.numbers ∙ sym (append_assoc (map uniq_of p.cells) (map uniq_of q.cells) (numbers_on (lines_of rest))) ∙ ap (λ (r : List ℕ). r ++ numbers_on (lines_of rest)) (sym (map-append uniq_of p.cells q.cells));
  set_is = q.set_is ∙ ap (λ (r : NumberSet). set.union r (pixels_of q.cells)) p.set_is ∙ union-assoc start (pixels_of p.cells) (pixels_of q.cells) ∙ ap (set.union start) (sym (pixels_of-append p.cells q.cells));
}

pub lines_start : (first : ℕ) (bytes : List ℕ) (old : NumberSet) → AreLinesRead first bytes old first bytes old
lines_start first bytes old = record { part = part_none bytes old; fault = refl; number = refl; within = omega arith }

pub lines_more : (first line next : ℕ) (text bytes rest : List ℕ) (start old new : NumberSet) → AreLinesRead first text start line bytes old → AreLinesRead line bytes old next rest new → AreLinesRead first text start next rest new
lines_more first line next text bytes rest start old new p q = record {
  part = part_more text bytes rest start old new p.part q.part;
  fault = p.fault ∙ q.fault;
  number = p.number ∙ q.number;
  within = omega (arith, p.within, q.within);
}

-- ---- the text

pub lines_represent_uniq : (text : List ℕ) (line : ℕ) (a : NumberSet) → AreLinesRead 1 text set.empty line [] a → RepresentsUniq text a
unfolding uniq_error
lines_represent_uniq text line a r = record {
  without_error = r.fault;
  cells = r.part.cells;
  are_cells = r.part.are_cells;
  numbers = sym (r.part.numbers ∙ append-nil (map uniq_of r.part.cells));
  pixels_are = r.part.set_is ∙ empty-union (pixels_of r.part.cells);
}

-- a text represents at most one set
pub set_is_unique : (text : List ℕ) (a b : NumberSet) → RepresentsUniq text a → RepresentsUniq text b → a ≡ b
set_is_unique text a b x y =
    let cells : x.cells ≡ y.cells = same_cells x.cells y.cells x.are_cells y.are_cells (x.numbers ∙ sym y.numbers) in
    x.pixels_are ∙ ap pixels_of cells ∙ sym y.pixels_are

-- ---- a written list is parsed as the set

-- each number in decimal, followed by LF
abbrev number_lines : List ℕ → List ℕ
number_lines ns = flat_map (λ n. decimal n ++ 10 ∷ []) ns

lines_numbers : (ns : List ℕ) → AllByRecursion (λ n. n < 2 ^ 62) ns → lines_of (number_lines ns) ≡ map decimal ns
lines_numbers [] h = refl
lines_numbers (n ∷ ns) h =
    ap lines_of (append_assoc (decimal n) (10 ∷ []) (number_lines ns))
    ∙ lines_after_digits (decimal n) (number_lines ns) (IsNumber-decimal n (omega (arith, h.0))).1 ∙ ap (λ (ls : List (List ℕ)). decimal n ∷ ls) (lines_numbers ns h.1)

numbers_decimal : (ns : List ℕ) → AllByRecursion (λ n. n < 2 ^ 62) ns → numbers_on (map decimal ns) ≡ ns
numbers_decimal [] h = refl
numbers_decimal (n ∷ ns) h =
    numbers_cons (decimal n) (map decimal ns) (IsNumber-decimal n (omega (arith, h.0))).0
    ∙ ap (λ (m : ℕ). m ∷ numbers_on (map decimal ns)) (value-decimal n (omega (arith, h.0)))
    ∙ ap (λ (r : List ℕ). n ∷ r) (numbers_decimal ns h.1)

small_numbers : (cells : List CellNumber) → AllByRecursion IsCell cells → AllByRecursion (λ n. n < 2 ^ 62) (map uniq_of cells)
small_numbers [] h = tt
small_numbers (c ∷ cells) h = ((uniq_range c h.0).1, small_numbers cells h.1)

decimals_are_numbers : (at : ℕ) (cells : List CellNumber) → AllByRecursion IsCell cells → first_error_of uniq_line_error at (map decimal (map uniq_of cells)) ≡ None
decimals_are_numbers at [] h = refl
decimals_are_numbers at (c ∷ cells) h =
    let range = uniq_range c h.0 in
    let n : IsNumber (decimal (uniq_of c)) = IsNumber-decimal (uniq_of c) (omega (arith, range.1)) in
    let value = value-decimal (uniq_of c) (omega (arith, range.1)) in
    ap (λ x. option_or x (first_error_of uniq_line_error (at + 1) (map decimal (map uniq_of cells)))) (uniq_line_without_error at (decimal (uniq_of c)) n (omega (arith, value, range.0)) (omega (arith, value, range.1)))
    ∙ decimals_are_numbers (at + 1) cells h.1

pub written_uniq_is_read : (a : NumberSet) → IsWithin a pixels → RepresentsUniq (uniq_text a) a
unfolding uniq_text uniq_error
written_uniq_is_read a in_pixels =
    let cells = cells_of a in
    let are : AllByRecursion IsCell cells = cells_are a in
    let lines : lines_of (flat_map (λ c. decimal (uniq_of c) ++ 10 ∷ []) cells) ≡ map decimal (map uniq_of cells) =
    ap lines_of (sym (flat_map-map (λ n. decimal n ++ 10 ∷ []) uniq_of cells)) ∙ lines_numbers (map uniq_of cells) (small_numbers cells are) in
    record {
      without_error = ap (first_error_of uniq_line_error 1) lines ∙ decimals_are_numbers 1 cells are;
      cells = cells;
      are_cells = are;
      numbers = sym (ap numbers_on lines ∙ numbers_decimal (map uniq_of cells) (small_numbers cells are));
      pixels_are = sym (cells_fill a in_pixels);
    }
