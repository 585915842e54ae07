-- Statistics of a set of pixels.
use Rattle.std.specs.Prelude.{◌≡◌, ℕ, zero, suc, ◌-◌, ◌*◌, ◌/◌, ◌%◌, List, [], ◌∷◌, ◌++◌, length, replicate}
use Rattle.std.specs.Prelude.{slice_index, Option, None, Some, decimal, codes, ◌^◌, ◌==◌, ◌&&◌, not, if◌then◌else◌}
use Rattle.std.specs.FinSet as set
use Rattle.moc_ranges.specs.CellCounts.{counts_by_order}
use Rattle.moc_ranges.specs.Cells.{cells_of}
use Rattle.moc_lists.specs.RangeList.{NumberSet, pixel_count, AreRangesOf}
use Rattle.moc_forms.specs.declared.statistics.Statistics.{Statistics}

-- the line of the MOC order that a text states
abbrev pub moc_order_line : Option ℕ → List ℕ
moc_order_line None = codes "deepest none\n"
moc_order_line (Some k) = codes "deepest " ++ decimal k ++ 10 ∷ []

-- the area of the sky in units of 10^-12 square degrees, rounded down: the sky has 129600/π square degrees
abbrev pub sky_area : ℕ
sky_area = 41252961249419271

-- the area of the sky in units of 10^-24 square degrees, rounded down
abbrev pub fine_sky_area : ℕ
fine_sky_area = 41252961249419271031294671466

-- the part of a quantity of the whole sky that belongs to a number of pixels, rounded down
abbrev pub part_of : ℕ → ℕ → ℕ
part_of whole count = count * whole / pixel_count

-- the share of the sky of a number of pixels, in parts of 10^12, rounded down
abbrev pub share_of : ℕ → ℕ
share_of count = part_of (10 ^ 12) count

-- a number with leading zeros, so that it has at least d digits
abbrev pub digits_with_zeros : ℕ → ℕ → List ℕ
digits_with_zeros d n = replicate (d - length (decimal n)) 48 ++ decimal n

-- a number of units of 10^-d as a decimal fraction with d digits after the point
abbrev pub decimal_fraction : ℕ → ℕ → List ℕ
decimal_fraction d n = decimal (n / 10 ^ d) ++ 46 ∷ digits_with_zeros d (n % 10 ^ d)

-- The part of a quantity of the sky that belongs to a number of pixels: with twelve digits after the point; with 24 if
-- this would be 0 and there is a pixel. The whole sky has `whole` units of 10^-12 and `fine` units of 10^-24.
abbrev pub part_text : ℕ → ℕ → ℕ → List ℕ
part_text whole fine count =
    if part_of whole count == 0 && not (count == 0)
    then decimal_fraction 24 (part_of fine count)
    else decimal_fraction 12 (part_of whole count)

-- the statistics are those of a set; its ranges are those of its normal range list
pub record AreStatistics (a : NumberSet) (moc_order : Option ℕ) (f : Statistics) : Type 0 where
  pub moc_order_is : f.moc_order ≡ moc_order
  pub pixels_are : f.pixels ≡ set.len a
  pub ranges : List (ℕ × ℕ)
  pub list_is : AreRangesOf a ranges
  pub ranges_are : f.ranges ≡ length ranges
  pub cells_are : f.cells ≡ length (cells_of a)
  pub orders_are : f.orders ≡ counts_by_order (cells_of a)

-- a word and a number, as a line
abbrev pub statistic_line : List ℕ → ℕ → List ℕ
statistic_line word n = word ++ decimal n ++ 10 ∷ []

-- the line of the share of the sky
abbrev pub share_line : ℕ → List ℕ
share_line count = codes "share " ++ part_text (10 ^ 12) (10 ^ 24) count ++ 10 ∷ []

-- the line of the area in square degrees
abbrev pub area_line : ℕ → List ℕ
area_line count = codes "area " ++ part_text sky_area fine_sky_area count ++ 10 ∷ []

-- the line of an order and its number of cells, if this is not zero
abbrev pub order_line : ℕ → ℕ → List ℕ
order_line k zero = []
order_line k (suc n) = codes "order " ++ decimal k ++ 32 ∷ decimal (suc n) ++ 10 ∷ []

-- the lines of the orders below a number, given the number of cells of each order
unfoldable pub order_lines_below : List ℕ → ℕ → List ℕ
order_lines_below counts zero = []
order_lines_below counts (suc k) = order_lines_below counts k ++ order_line k (slice_index counts k)

-- the statistics, one a line
abbrev pub statistics_text : Statistics → List ℕ
statistics_text f =
    moc_order_line f.moc_order ++ statistic_line (codes "pixels ") f.pixels
    ++ (share_line f.pixels ++ area_line f.pixels) ++ statistic_line (codes "ranges ") f.ranges
    ++ statistic_line (codes "cells ") f.cells ++ order_lines_below f.orders 30

-- a text has the statistics of a set
abbrev pub Describes : NumberSet → Option ℕ → List ℕ → Type 0
Describes a moc_order text = (f : Statistics) × AreStatistics a moc_order f × (text ≡ statistics_text f)
