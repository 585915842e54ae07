-- The ascending list of the touching cells is a filter of all cells of the order.
use Rattle.std.proofs.Common.{◌≡◌, ℕ, ◌+◌, ◌*◌, ◌^◌, ◌<◌, ◌↔◌, List, Contains, Bool, true, ◌&&◌, arith, refl, ap, sym, ◌∙◌}
use Rattle.std.specs.List.{filter, range_with_len, list_any}
use Rattle.std.specs.Prelude.{eqb}
use Rattle.std.proofs.lemmas.Bool.{eq-eqb, eqb-true, and_from, and_parts}
use Rattle.std.proofs.lemmas.List.Folds.{list_any_at}
use Rattle.std.proofs.lemmas.Map.Views.{Contains-from_any, any-filter_same}
use Rattle.std.specs.List.Sorted.{IsStrictlyIncreasing}
use Rattle.std.proofs.lemmas.List.Kept.{IsStrictlyIncreasing-filter}
use Rattle.std.proofs.lemmas.List.FromFn.{length-range_with_len, get_or-range_with_len}
use Rattle.moc_sphere.specs.Touching.{Touches, is_touching, touching_cells}
use Rattle.moc_sphere.proofs.Shared.{is_touching-from, Touches-from_test}
use Rattle.moc_sphere.proofs.Unique.{ascending_list_unique}

ascending_range : (n : ℕ) → IsStrictlyIncreasing (range_with_len 0 n)
ascending_range n k h =
    let len = length-range_with_len 0 n in
    omega (arith, get_or-range_with_len 0 n k 0 (omega arith), get_or-range_with_len 0 n (k + 1) 0 (omega arith))

pub touching_cells-ascends : (k i : ℕ) → IsStrictlyIncreasing (touching_cells k i)
unfolding touching_cells
touching_cells-ascends k i = IsStrictlyIncreasing-filter (is_touching k i) (range_with_len 0 (12 * 4 ^ k)) (ascending_range (12 * 4 ^ k))

any_if_contained : (xs : List ℕ) (j : ℕ) → Contains xs j → list_any (eqb j) xs ≡ true
any_if_contained xs j (m, h, e) = list_any_at (eqb j) xs m j h (ap (eqb j) e ∙ eq-eqb j j refl)

contained_by_any : (xs : List ℕ) (j : ℕ) → list_any (eqb j) xs ≡ true → Contains xs j
contained_by_any xs j h = Contains-from_any (λ x y. eqb-true x y) j xs h

any_of_filter : (p : ℕ → Bool) (xs : List ℕ) (j : ℕ) → list_any (eqb j) (filter p xs) ≡ (p j && list_any (eqb j) xs)
any_of_filter p xs j = any-filter_same (eqb j) p (p j) (λ k h. ap p (sym (eqb-true j k h))) xs

in_range : (n j : ℕ) → j < n → Contains (range_with_len 0 n) j
in_range n j h = (j, omega (arith, length-range_with_len 0 n), omega (arith, get_or-range_with_len 0 n j j h))

below_range : (n j : ℕ) → Contains (range_with_len 0 n) j → j < n
below_range n j (k, h, e) =
    let b : k < n = omega (arith, length-range_with_len 0 n) in
    omega (arith, get_or-range_with_len 0 n k j b)

pub touching_cells-has : (k i j : ℕ) → Touches k i j → Contains (touching_cells k i) j
unfolding touching_cells
touching_cells-has k i j t =
    let cells = range_with_len 0 (12 * 4 ^ k) in
    contained_by_any (filter (is_touching k i) cells) j
    (any_of_filter (is_touching k i) cells j ∙ and_from _ _ (is_touching-from k i j t) (any_if_contained cells j (in_range (12 * 4 ^ k) j t.second)))

pub Touches-from_listed : (k i j : ℕ) → i < 12 * 4 ^ k → Contains (touching_cells k i) j → Touches k i j
unfolding touching_cells
Touches-from_listed k i j ib c =
    let cells = range_with_len 0 (12 * 4 ^ k) in
    let h = and_parts _ _ (sym (any_of_filter (is_touching k i) cells j) ∙ any_if_contained (filter (is_touching k i) cells) j c) in
    Touches-from_test k i j ib (below_range (12 * 4 ^ k) j (contained_by_any cells j h.1)) h.0

pub is_whole : (k i : ℕ) (xs : List ℕ) → i < 12 * 4 ^ k → IsStrictlyIncreasing xs → ((j : ℕ) → Contains xs j ↔ Touches k i j) → xs ≡ touching_cells k i
is_whole k i xs ib up h =
    ascending_list_unique xs (touching_cells k i) up (touching_cells-ascends k i)
    (λ j c. touching_cells-has k i j ((h j).0 c)) (λ j c. (h j).1 (Touches-from_listed k i j ib c))
