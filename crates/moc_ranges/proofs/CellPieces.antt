-- The cells of an order of ranges are the cells of their pieces, and the pieces are a normal list.
use Rattle.std.proofs.Common.{◌≡◌, ℕ, zero, suc, ◌+◌, ◌-◌, ◌*◌, ◌/◌, ◌<◌, ◌≤◌, Bool, true, false, cond, ◌&&◌, List, []}
use Rattle.std.proofs.Common.{◌∷◌, ◌++◌, length, take, get_or, map, refl, sym, ap, subst, ◌∙◌, inl, inr, arith}
use Rattle.std.proofs.Common.{append-nil, append_assoc, eqb}
use Rattle.std.specs.Prelude.{nat_lt}
use Rattle.std.specs.List.{filter, range_with_len, AllByRecursion}
use Rattle.std.proofs.lemmas.Bool.{cases_lt, and_parts, and_from, lt-ltb, ltb-true, le-ltb, eq-eqb, ne_eqb}
use Rattle.std.proofs.lemmas.List.{drop_more, get_or-take, length-append, length-drop, length-take-le}
use Rattle.std.proofs.lemmas.List.Elements.{filter-append}
use Rattle.std.proofs.lemmas.Nat.{div-add-mod', mod_below, div_below}
use Rattle.moc_sphere.specs.CellNumber.{CellNumber, cell_number, cell_count, cell_size, IsCell}
use Rattle.moc_sphere.specs.Lemmas.{cell_size-positive}
use Rattle.moc_blocks.specs.RangeList.{NumberSet, pixel_count, set_of, IsNormal, BeginsAfter}
use Rattle.moc_ranges.specs.Cells.{HaveOrders, cells_in, cells_of, cells_of_range, cells_below, is_cell_of}
use Rattle.moc_ranges.specs.Lemmas.Cells.{cells_are, four_parts}
use Rattle.moc_ranges.specs.Private.CellRuns.{remaining_ranges, around_parents, AreInnerCells, HasOrders, cells_at, nonempty_range}
use Rattle.moc_ranges.specs.Private.CellRuns.{pieces_along, pieces_of, inner_cells_of}
use Rattle.moc_operations.specs.Private.Meeting.{list_if}
use Rattle.moc_ranges.proofs.CellRuns.{cells_split, count_bound, four_children, no_cells, run_one, run_top, run_two}
use Rattle.moc_ranges.proofs.CellRuns.{whole_is}
use Rattle.moc_ranges.proofs.CellOrders.{cells_step}

-- ---- the cells of pieces

pub cells_in-append : (k : ℕ) (xs ys : List (ℕ × ℕ)) → cells_in k (xs ++ ys) ≡ cells_in k xs ++ cells_in k ys
cells_in-append k [] ys = refl
cells_in-append k (x ∷ xs) ys =
    let here = map (cell_number k) (range_with_len x.0 (x.1 - x.0)) in
    ap (λ l. here ++ l) (cells_in-append k xs ys) ∙ sym (append_assoc here (cells_in k xs) (cells_in k ys))

no_cells_between : (k first last : ℕ) → last ≤ first → cells_of_range k (first, last) ≡ []
no_cells_between k first last le =
    let none : last - first ≡ 0 = omega arith in
    ap (λ n. map (cell_number k) (range_with_len first n)) none

cells_of_nonempty : (k first last : ℕ) → cells_in k (nonempty_range (first, last)) ≡ cells_of_range k (first, last)
cells_of_nonempty k first last = elim (cases_lt first last) [
  | inl lt ↦ ap (λ b. cells_in k (list_if b (first, last))) (lt-ltb first last lt) ∙ append-nil (cells_of_range k (first, last))
  | inr le ↦ ap (λ b. cells_in k (list_if b (first, last))) (le-ltb first last le) ∙ sym (no_cells_between k first last le)
]

-- the cells of both pieces
abbrev cells_of_both : ℕ → (ℕ × ℕ) × (ℕ × ℕ) → List CellNumber
cells_of_both k p = cells_in k (nonempty_range p.0 ++ nonempty_range p.1)

both_cells : (k : ℕ) (p : (ℕ × ℕ) × (ℕ × ℕ)) → cells_of_both k p ≡ cells_of_range k p.0 ++ cells_of_range k p.1
both_cells k p = cells_in-append k (nonempty_range p.0) (nonempty_range p.1) ∙ (λ i. cells_of_nonempty k p.0.0 p.0.1 i ++ cells_of_nonempty k p.1.0 p.1.1 i)

-- the parents that are inside the range
pub parents_are : (k from to first last : ℕ) → 0 < k → k ≤ 29 → AreInnerCells k from to first last → AreInnerCells (k - 1) from to ((first + 3) / 4) (last / 4)
parents_are zero from to first last some small whole = absurd (omega arith)
parents_are (suc k) from to first last some small whole =
    record { each = λ j. (there j, back j); in_range = below }
  where
    w : ℕ
    w = cell_size (suc k)

    four : cell_size (suc k - 1) ≡ w * 4
    four = let before : suc k - 1 ≡ k = omega arith in ap cell_size before ∙ four_parts k (omega arith)

    there : (j : ℕ) → ((first + 3) / 4 ≤ j) × (j < last / 4) → (from ≤ j * cell_size (suc k - 1)) × ((j + 1) * cell_size (suc k - 1) ≤ to)
    there j (low, high) =
        let a = (whole.each (4 * j)).0 (omega arith, omega arith) in
        let b = (whole.each (4 * j + 3)).0 (omega arith, omega arith) in
        let c : 4 * j * w ≡ j * (w * 4) = omega arith in
        let d : (4 * j + 3 + 1) * w ≡ (j + 1) * (w * 4) = omega arith in
        rw four (omega (arith, a.0), omega (arith, b.1))

    back : (j : ℕ) → (from ≤ j * cell_size (suc k - 1)) × ((j + 1) * cell_size (suc k - 1) ≤ to) → ((first + 3) / 4 ≤ j) × (j < last / 4)
    back j at =
        let is = rw four at at in
        let c : 4 * j * w ≡ j * (w * 4) = omega arith in
        let d : (4 * j + 3 + 1) * w ≡ (j + 1) * (w * 4) = omega arith in
        let e : (4 * j + 1) * w ≡ 4 * j * w + w = omega arith in
        let f : (4 * j + 3 + 1) * w ≡ 4 * j * w + 4 * w = omega arith in
        let g : (4 * j + 3) * w ≡ 4 * j * w + 3 * w = omega arith in
        let a = (whole.each (4 * j)).1 (omega (arith, is.0), omega (arith, is.1)) in
        let b = (whole.each (4 * j + 3)).1 (omega (arith, is.0), omega (arith, is.1)) in
        (omega (arith, a.0), omega (arith, b.1))

    below : last / 4 ≤ cell_count (suc k - 1)
    below = omega (arith, whole.in_range, four_children (suc k) (omega arith))

-- the pieces of a run of cells inside a range have the range's cells of the order
around_cells : (k from to first last : ℕ) → k ≤ 29 → from < to → to ≤ pixel_count → AreInnerCells k from to first last → cells_of_both k (around_parents k (first, last)) ≡ cells_at (set_of ((from, to) ∷ [])) k
around_cells zero from to first last small some fits whole =
    both_cells 0 ((first, last), (last, last)) ∙ ap (λ l. cells_of_range 0 (first, last) ++ l) (no_cells_between 0 last last (omega arith)) ∙ append-nil (cells_of_range 0 (first, last))
    ∙ sym (run_top 0 from to first last refl some fits whole)
around_cells (suc k) from to first last small some fits whole =
    let low = (first + 3) / 4 in
    let high = last / 4 in
    let parents = parents_are (suc k) from to first last (omega arith) small whole in
    let top : nat_lt 0 (suc k) ≡ true = lt-ltb 0 (suc k) (omega arith) in
    elim (cases_lt (low * 4) (high * 4)) [
      | inl lt ↦
          let is : (nat_lt 0 (suc k) && nat_lt (low * 4) (high * 4)) ≡ true = and_from _ _ top (lt-ltb (low * 4) (high * 4) lt) in
          let a : 4 * low ≡ low * 4 = omega arith in
          let b : 4 * high ≡ high * 4 = omega arith in
          ap (λ b. cells_of_both (suc k) (cond b ((first, low * 4), (high * 4, last)) ((first, last), (last, last)))) is
          ∙ both_cells (suc k) ((first, low * 4), (high * 4, last))
          ∙ sym (run_two (suc k) from to first last low high (omega arith) small some fits whole parents (omega arith) ∙ (λ i. cells_of_range (suc k) (first, a i) ++ cells_of_range (suc k) (b i, last)))
      | inr le ↦
          let is : (nat_lt 0 (suc k) && nat_lt (low * 4) (high * 4)) ≡ false = ap (λ b. b && nat_lt (low * 4) (high * 4)) top ∙ le-ltb (low * 4) (high * 4) le in
          ap (λ b. cells_of_both (suc k) (cond b ((first, low * 4), (high * 4, last)) ((first, last), (last, last)))) is
          ∙ both_cells (suc k) ((first, last), (last, last)) ∙ ap (λ l. cells_of_range (suc k) (first, last) ++ l) (no_cells_between (suc k) last last (omega arith))
          ∙ append-nil (cells_of_range (suc k) (first, last))
          ∙ sym (run_one (suc k) from to first last low high (omega arith) small some fits whole parents (omega arith))
    ]

inner_cells_of-is : (k from to : ℕ) → k ≤ 29 → to ≤ pixel_count → AreInnerCells k from to (inner_cells_of k (from, to)).0 (inner_cells_of k (from, to)).1
inner_cells_of-is k from to small fits = whole_is k (cell_size k) from to refl small fits

-- the pieces of ranges have the cells of the order
pub pieces_cells : (k : ℕ) (rs : List (ℕ × ℕ)) → IsNormal rs → k ≤ 29 → cells_in k (pieces_along k rs) ≡ cells_at (set_of rs) k
pieces_cells k [] normal small = sym (no_cells k small)
pieces_cells k (r ∷ rs) normal small =
    let p = pieces_of k r in
    let first = cells_in k (nonempty_range p.0) in
    let second = cells_in k (nonempty_range p.1) in
    let rest = cells_in k (pieces_along k rs) in
    cells_in-append k (nonempty_range p.0) (nonempty_range p.1 ++ pieces_along k rs)
    ∙ ap (λ l. first ++ l) (cells_in-append k (nonempty_range p.1) (pieces_along k rs))
    ∙ sym (append_assoc first second rest)
    ∙ ap (λ l. l ++ rest) (sym (cells_in-append k (nonempty_range p.0) (nonempty_range p.1)))
    ∙ (λ i. around_cells k r.0 r.1 (inner_cells_of k r).0 (inner_cells_of k r).1 small normal.0 normal.1 (inner_cells_of-is k r.0 r.1 small normal.1) i ++ pieces_cells k rs normal.3 small i)
    ∙ sym (cells_split r rs k normal small)

-- ---- the pieces are a normal list

record Parts (first last : ℕ) (p : (ℕ × ℕ) × (ℕ × ℕ)) : Type 0 where
  starts : p.0.0 ≡ first
  ends : p.1.1 ≡ last
  within : p.0.1 ≤ last
  gap : p.1.0 < p.1.1 → (p.0.1 < p.1.0) × (first ≤ p.1.0)

parts : (k first last : ℕ) → Parts first last (around_parents k (first, last))
parts k first last =
    let low = (first + 3) / 4 * 4 in
    let high = last / 4 * 4 in
    elim (nat_lt 0 k && nat_lt low high) as (λ b. (nat_lt 0 k && nat_lt low high) ≡ b → Parts first last (cond b ((first, low), (high, last)) ((first, last), (last, last)))) [
      | true ↦ λ e.
          let lt : low < high = ltb-true low high (and_parts (nat_lt 0 k) (nat_lt low high) e).1 in
          record { starts = refl; ends = refl; within = omega arith; gap = λ some. (lt, omega arith) }
      | false ↦ λ e. record { starts = refl; ends = refl; within = omega arith; gap = λ some. absurd (omega arith) }
    ] refl

begins_sooner : (x y : ℕ) (l : List (ℕ × ℕ)) → x ≤ y → BeginsAfter y l → BeginsAfter x l
begins_sooner x y [] le after = tt
begins_sooner x y (r ∷ rs) le after = omega (arith, after)

begins_after_nonempty : (x : ℕ) (a : ℕ × ℕ) (l : List (ℕ × ℕ)) → (a.0 < a.1 → x < a.0) → BeginsAfter x l → BeginsAfter x (nonempty_range a ++ l)
begins_after_nonempty x a l here later =
    elim (nat_lt a.0 a.1) as (λ b. nat_lt a.0 a.1 ≡ b → BeginsAfter x (list_if b a ++ l)) [
      | true ↦ λ e. here (ltb-true a.0 a.1 e)
      | false ↦ λ e. later
    ] refl

normal_after_nonempty : (a : ℕ × ℕ) (l : List (ℕ × ℕ)) → a.1 ≤ pixel_count → (a.0 < a.1 → BeginsAfter a.1 l) → IsNormal l → IsNormal (nonempty_range a ++ l)
normal_after_nonempty a l fits after normal =
    elim (nat_lt a.0 a.1) as (λ b. nat_lt a.0 a.1 ≡ b → IsNormal (list_if b a ++ l)) [
      | true ↦ λ e. let lt = ltb-true a.0 a.1 e in (lt, fits, after lt, normal)
      | false ↦ λ e. normal
    ] refl

-- the first cell inside a range begins after everything that ends before the range
first_cell_after : (k y from : ℕ) → y < from → y / cell_size k < (from + (cell_size k - 1)) / cell_size k
first_cell_after k y from lt =
    let w = cell_size k in
    let pos = cell_size-positive k in
    let n = from + (w - 1) in
    let a = div-add-mod' n w in
    let b = mod_below n w pos in
    let c : y < n / w * w = omega arith in
    div_below y w (n / w) pos c

pieces_begin : (k y : ℕ) (rs : List (ℕ × ℕ)) → IsNormal rs → BeginsAfter y rs → BeginsAfter (y / cell_size k) (pieces_along k rs)
pieces_begin k y [] normal after = tt
pieces_begin k y (r ∷ rs) normal after =
    let x = y / cell_size k in
    let p = pieces_of k r in
    let is = parts k (inner_cells_of k r).0 (inner_cells_of k r).1 in
    let first = first_cell_after k y r.0 after in
    let rest = pieces_begin k y rs normal.3 (begins_sooner y r.1 rs (omega (arith, after, normal.0)) normal.2) in
    begins_after_nonempty x p.0 (nonempty_range p.1 ++ pieces_along k rs) (λ some. omega (arith, first, is.starts))
    (begins_after_nonempty x p.1 (pieces_along k rs) (λ some. omega (arith, first, (is.gap some).1)) rest)

pub pieces_normal : (k : ℕ) (rs : List (ℕ × ℕ)) → IsNormal rs → k ≤ 29 → IsNormal (pieces_along k rs)
pieces_normal k [] normal small = tt
pieces_normal k (r ∷ rs) normal small =
    let p = pieces_of k r in
    let last = (inner_cells_of k r).1 in
    let is = parts k (inner_cells_of k r).0 last in
    let fits : last ≤ pixel_count = omega (arith, (inner_cells_of-is k r.0 r.1 small normal.1).in_range, count_bound k small) in
    let rest = pieces_begin k r.1 rs normal.3 normal.2 in
    let after : BeginsAfter p.0.1 (pieces_along k rs) = begins_sooner p.0.1 last (pieces_along k rs) is.within rest in
    normal_after_nonempty p.0 (nonempty_range p.1 ++ pieces_along k rs) (omega (arith, fits, is.within)) (λ some. begins_after_nonempty p.0.1 p.1 (pieces_along k rs) (λ more. (is.gap more).0) after)
    (normal_after_nonempty p.1 (pieces_along k rs) (omega (arith, fits, is.ends)) (λ some. begins_sooner p.1.1 last (pieces_along k rs) (omega (arith, is.ends)) rest) (pieces_normal k rs normal.3 small))

-- ---- the cells of one order among all

other_order : (p : CellNumber → Bool) (j k : ℕ) (ns : List ℕ) → (j ≡ k → ⊥) → filter (λ c. eqb c.order k) (filter p (map (cell_number j) ns)) ≡ []
other_order p j k [] other = refl
other_order p j k (n ∷ ns) other =
    let rest = other_order p j k ns other in
    elim (p (cell_number j n)) as (λ b. filter (λ c. eqb c.order k) (cond b (cell_number j n ∷ filter p (map (cell_number j) ns)) (filter p (map (cell_number j) ns))) ≡ []) [
      | true ↦ rw (ne_eqb j k other) rest
      | false ↦ rest
    ]

same_order : (p : CellNumber → Bool) (k : ℕ) (ns : List ℕ) → filter (λ c. eqb c.order k) (filter p (map (cell_number k) ns)) ≡ filter p (map (cell_number k) ns)
same_order p k [] = refl
same_order p k (n ∷ ns) =
    let rest = same_order p k ns in
    elim (p (cell_number k n)) as (λ b. filter (λ c. eqb c.order k) (cond b (cell_number k n ∷ filter p (map (cell_number k) ns)) (filter p (map (cell_number k) ns))) ≡ cond b (cell_number k n ∷ filter p (map (cell_number k) ns)) (filter p (map (cell_number k) ns))) [
      | true ↦ rw (eq-eqb k k refl) (ap (λ (l : List CellNumber). cell_number k n ∷ l) rest)
      | false ↦ rest
    ]

one_more : (a : NumberSet) (k j : ℕ) → filter (λ c. eqb c.order k) (filter (is_cell_of a) (cells_below (suc j))) ≡ filter (λ c. eqb c.order k) (filter (is_cell_of a) (cells_below j)) ++ filter (λ c. eqb c.order k) (cells_at a j)
one_more a k j = ap (filter (λ c. eqb c.order k)) (cells_step a j) ∙ filter-append (λ c. eqb c.order k) (filter (is_cell_of a) (cells_below j)) (cells_at a j)

none_below : (a : NumberSet) (k n : ℕ) → n ≤ k → filter (λ c. eqb c.order k) (filter (is_cell_of a) (cells_below n)) ≡ []
unfolding cells_below cells_at
none_below a k zero le = refl
none_below a k (suc j) le =
    one_more a k j ∙ (λ i. none_below a k j (omega arith) i ++ other_order (is_cell_of a) j k (range_with_len 0 (cell_count j)) (λ e. omega arith) i)

all_below : (a : NumberSet) (k n : ℕ) → k < n → filter (λ c. eqb c.order k) (filter (is_cell_of a) (cells_below n)) ≡ cells_at a k
unfolding cells_below cells_at
all_below a k zero lt = absurd (omega arith)
all_below a k (suc j) lt = elim (cases_lt k j) [
  | inl before ↦
      one_more a k j ∙ (λ i. all_below a k j before i ++ other_order (is_cell_of a) j k (range_with_len 0 (cell_count j)) (λ e. omega arith) i)
      ∙ append-nil (cells_at a k)
  | inr le ↦
      let same : j ≡ k = omega arith in
      one_more a k j ∙ (λ i. none_below a k j (omega arith) i ++ filter (λ c. eqb c.order k) (cells_at a (same i)))
      ∙ same_order (is_cell_of a) k (range_with_len 0 (cell_count k))
]

pub cells_of_order : (a : NumberSet) (k : ℕ) → k ≤ 29 → cells_at a k ≡ filter (λ c. eqb c.order k) (cells_of a)
unfolding cells_of
cells_of_order a k small = sym (all_below a k 30 (omega arith))

-- ---- the orders of all cells

all_of_filtered : (P : CellNumber → Type 0) (p : CellNumber → Bool) (cells : List CellNumber) → AllByRecursion IsCell (filter p cells) → ((c : CellNumber) → IsCell c → p c ≡ true → P c) → AllByRecursion P (filter p cells)
all_of_filtered P p [] are has = tt
all_of_filtered P p (c ∷ cells) are has =
    elim (p c) as (λ b. p c ≡ b → AllByRecursion IsCell (cond b (c ∷ filter p cells) (filter p cells)) → AllByRecursion P (cond b (c ∷ filter p cells) (filter p cells))) [
      | true ↦ λ e all. (has c all.0 e, all_of_filtered P p cells all.1 has)
      | false ↦ λ e all. all_of_filtered P p cells all has
    ] refl are

pub orders_of_cells : (a : NumberSet) (first last : ℕ) → HasOrders a first last → HaveOrders first last (cells_of a)
unfolding cells_of
orders_of_cells a first last has =
    all_of_filtered (λ c. (first ≤ c.order) × (c.order < last)) (is_cell_of a) (cells_below 30) (cells_are a) (λ c is of_it. has.each c.order c.index is.order_in_range is.index_in_range of_it)

-- ---- the buffer of runs

-- the next run of the buffer is returned
pub ahead_next : (made rest : List (ℕ × ℕ)) (given count : ℕ) → given < count → count ≤ length made → remaining_ranges made given count ++ rest ≡ get_or made given (0, 0) ∷ (remaining_ranges made (given + 1) count ++ rest)
ahead_next made rest given count lt fits =
    ap (λ (l : List (ℕ × ℕ)). l ++ rest) (drop_more (take count made) given (0, 0) (omega (arith, length-take-le count made fits)))
    ∙ ap (λ (x : ℕ × ℕ). x ∷ (remaining_ranges made (given + 1) count ++ rest)) (get_or-take count made given (0, 0) lt)

-- ---- the cells of runs are cells

-- a run whose cells come first ends within its order
pub run_fits : (k : ℕ) (run : ℕ × ℕ) (cells : List CellNumber) → AllByRecursion IsCell (cells_of_range k run ++ cells) → run.0 < run.1 → run.1 ≤ cell_count k
run_fits k run cells are some =
    let n = run.1 - run.0 - 1 in
    let many : run.1 - run.0 ≡ suc n = omega arith in
    omega (arith, last run.0 n (subst (λ m. AllByRecursion IsCell (map (cell_number k) (range_with_len run.0 m) ++ cells)) many are))
  where
    last : (first n : ℕ) → AllByRecursion IsCell (map (cell_number k) (range_with_len first (suc n)) ++ cells) → first + suc n ≤ cell_count k
    last first zero are = omega (arith, (are.0).index_in_range)
    last first (suc n) are = omega (arith, last (first + 1) n are.1)

pub later_cells : (xs ys : List CellNumber) → AllByRecursion IsCell (xs ++ ys) → AllByRecursion IsCell ys
later_cells [] ys are = are
later_cells (x ∷ xs) ys are = later_cells xs ys are.1

-- the cells of an order
pub order_cells : (a : NumberSet) (k : ℕ) → AllByRecursion IsCell (filter (λ c. eqb c.order k) (cells_of a))
order_cells a k = kept (cells_of a) (cells_are a)
  where
    kept : (cells : List CellNumber) → AllByRecursion IsCell cells → AllByRecursion IsCell (filter (λ c. eqb c.order k) cells)
    kept [] are = tt
    kept (c ∷ cells) are =
        elim (eqb c.order k) as (λ b. AllByRecursion IsCell (cond b (c ∷ filter (λ c. eqb c.order k) cells) (filter (λ c. eqb c.order k) cells))) [
          | true ↦ (are.0, kept cells are.1)
          | false ↦ kept cells are.1
        ]

-- ---- the number of runs

at_most_one_range : (b : Bool) (range : ℕ × ℕ) → length (list_if b range) ≤ 1
at_most_one_range true range = omega arith
at_most_one_range false range = omega arith

pub pieces_count : (k : ℕ) (rs : List (ℕ × ℕ)) → length (pieces_along k rs) ≤ 2 * length rs
pieces_count k [] = omega arith
pieces_count k (r ∷ rs) =
    let p = pieces_of k r in
    omega (
      arith,
      length-append (nonempty_range p.0) (nonempty_range p.1 ++ pieces_along k rs),
      length-append (nonempty_range p.1) (pieces_along k rs),
      at_most_one_range (nat_lt p.0.0 p.0.1) p.0,
      at_most_one_range (nat_lt p.1.0 p.1.1) p.1,
      pieces_count k rs,
    )

-- the runs in the buffer that are not returned yet, and the others after them
pub ahead_count : (made rest : List (ℕ × ℕ)) (given count : ℕ) → count ≤ length made
    → length (remaining_ranges made given count ++ rest) ≡ (count - given) + length rest
ahead_count made rest given count fits =
    omega (arith, length-append (remaining_ranges made given count) rest, length-drop given (take count made), length-take-le count made fits)
