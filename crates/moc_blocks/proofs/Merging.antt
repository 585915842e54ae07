-- Concatenating lists of ranges, block by block.
use Rattle.std.proofs.Common.{◌≡◌, ℕ, ◌<◌, ◌≤◌, List, [], ◌∷◌, ◌++◌, length, refl, arith}
use Rattle.moc_blocks.specs.RangeList.{IsNormal}
use Rattle.moc_blocks.specs.Private.Blocks.{last_of, next_of}
use Rattle.moc_blocks.specs.Private.Built.{EndsBelow, BeginsBy}

pub EndsBelow-more : (f g : ℕ) (rs : List (ℕ × ℕ)) → EndsBelow f rs → f ≤ g → EndsBelow g rs
EndsBelow-more f g [] all le = tt
EndsBelow-more f g (r ∷ rs) all le = (omega arith, EndsBelow-more f g rs all.1 le)

pub EndsBelow-append : (f : ℕ) (rs ss : List (ℕ × ℕ)) → EndsBelow f rs → EndsBelow f ss → EndsBelow f (rs ++ ss)
EndsBelow-append f [] ss all more = more
EndsBelow-append f (r ∷ rs) ss all more = (all.0, EndsBelow-append f rs ss all.1 more)

pub EndsBelow-first : (f : ℕ) (rs ss : List (ℕ × ℕ)) → EndsBelow f (rs ++ ss) → EndsBelow f rs
EndsBelow-first f [] ss all = tt
EndsBelow-first f (r ∷ rs) ss all = (all.0, EndsBelow-first f rs ss all.1)

first_le_last : (r : ℕ × ℕ) (rs : List (ℕ × ℕ)) → IsNormal (r ∷ rs) → r.1 ≤ last_of (r ∷ rs)
first_le_last r [] normal = omega arith
first_le_last r (s ∷ rs) normal = let rest = first_le_last s rs normal.3 in omega arith

pub ends_second : (f : ℕ) (rs ss : List (ℕ × ℕ)) → EndsBelow f (rs ++ ss) → EndsBelow f ss
ends_second f [] ss all = all
ends_second f (r ∷ rs) ss all = ends_second f rs ss all.1

pub begins_of_ends : (f : ℕ) (rs : List (ℕ × ℕ)) → IsNormal rs → EndsBelow f rs → BeginsBy f rs
begins_of_ends f [] normal all = tt
begins_of_ends f (r ∷ rs) normal all = (omega (arith, normal.0, all.0), begins_of_ends f rs normal.3 all.1)

-- if the last range ends below f, each range does
pub ends_by_last : (f : ℕ) (rs : List (ℕ × ℕ)) → IsNormal rs → last_of rs < f → EndsBelow f rs
ends_by_last f [] normal lt = tt
ends_by_last f (r ∷ []) normal lt = (lt, tt)
ends_by_last f (r ∷ (s ∷ rs)) normal lt = let rest = first_le_last s rs normal.3 in (omega arith, ends_by_last f (s ∷ rs) normal.3 lt)

-- ranges end before the next range begins
pub ends_next : (rs ss : List (ℕ × ℕ)) → IsNormal (rs ++ ss) → EndsBelow (next_of ss) rs
ends_next [] ss normal = tt
ends_next (r ∷ []) [] normal = (omega arith, tt)
ends_next (r ∷ []) (s ∷ ss) normal = (normal.2, tt)
ends_next (r ∷ (r' ∷ rs)) ss normal = let rest = ends_next (r' ∷ rs) ss normal.3 in (omega arith, rest)

-- two normal lists, if the first ends before the second begins, make a normal list
pub normal_append : (rs ss : List (ℕ × ℕ)) → IsNormal rs → IsNormal ss → EndsBelow (next_of ss) rs → IsNormal (rs ++ ss)
normal_append [] ss nr ns below = ns
normal_append (r ∷ []) [] nr ns below = nr
normal_append (r ∷ []) (s ∷ ss) nr ns below = (nr.0, nr.1, below.0, ns)
normal_append (r ∷ (r' ∷ rs)) ss nr ns below = (nr.0, nr.1, nr.2, normal_append (r' ∷ rs) ss nr.3 ns below.1)

pub next_append : (rs ss : List (ℕ × ℕ)) → 0 < length rs → next_of (rs ++ ss) ≡ next_of rs
next_append [] ss some = absurd (omega arith)
next_append (r ∷ rs) ss some = refl
