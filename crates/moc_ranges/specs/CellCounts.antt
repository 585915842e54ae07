-- The number of cells of each order.
use Rattle.std.specs.Prelude.{ℕ, ◌^◌, ◌==◌, List, map, count_by}
use Rattle.std.specs.List.{range_with_len}
use Rattle.moc_sphere.specs.CellNumber.{CellNumber, order_count}

-- the number of cells of each order, from order 0 to order 29
unfoldable pub counts_by_order : List CellNumber → List ℕ
counts_by_order cells = map (λ k. count_by (λ c. c.order == k) cells) (range_with_len 0 order_count)

-- the first number that is greater than the NUNIQ number of each cell (MOC 2.0): no set has so many cells
abbrev pub uniq_end : ℕ
uniq_end = 2 ^ 62
