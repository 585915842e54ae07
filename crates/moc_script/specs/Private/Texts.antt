-- Texts in one buffer.
use Rattle.std.specs.Prelude.{ℕ, ◌+◌, List, [], ◌∷◌, take, drop}

-- bytes split into texts of these lengths
abbrev pub split_by_len : List ℕ → List ℕ → List (List ℕ)
split_by_len [] bytes = []
split_by_len (len ∷ lens) bytes = take len bytes ∷ split_by_len lens (drop len bytes)

-- the sum of the lengths
abbrev pub total : List ℕ → ℕ
total [] = 0
total (len ∷ lens) = len + total lens
