-- Operations on two slices of ranges, with a result that grows.
use Rattle.std.specs.Prelude.{◌≡◌, ℕ, ◌<◌, ◌||◌, min, List}
use Rattle.moc_blocks.specs.RangeList.{IsNormal}
use Rattle.moc_blocks.specs.Lemmas.Members.{in_ranges, in_range}
use Rattle.moc_blocks.specs.Private.Built.{EndsBelow}

-- a range x, which ends no later than y, was appended, or merged into y, which is z now
pub record IsAppendedOrMerged (x y z : ℕ × ℕ) (kept kept' : List (ℕ × ℕ)) : Type 0 where
  pub normal : IsNormal kept'
  pub end : z.1 ≡ y.1
  pub filled : z.0 < z.1
  pub below : (f : ℕ) → x.1 < f → EndsBelow (min f z.0) kept'
  pub same : (q : ℕ) → (in_ranges kept' q || in_range z q) ≡ (in_ranges kept q || (in_range x q || in_range y q))
