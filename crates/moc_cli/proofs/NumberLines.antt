-- Numbers on a line.
use Rattle.std.proofs.Common.{◌≡◌, ◌∙◌, ℕ, ◌+◌, ◌<◌, ◌≤◌, List, [], ◌∷◌, ◌++◌, length, take, get_or, sym, ap, append-nil, append_assoc}
use Rattle.std.specs.Prelude.{codes, decimal}
use Rattle.std.proofs.lemmas.List.{take_more, take_all}
use Rattle.std.specs.List.{flat_map}

-- numbers after others, each after a blank
abbrev pub with_spaces : List ℕ → List ℕ
with_spaces ns = flat_map (λ n. codes " " ++ decimal n) ns

spaced_push : (ns : List ℕ) (n : ℕ) → with_spaces (ns ++ n ∷ []) ≡ with_spaces ns ++ 32 ∷ decimal n
spaced_push [] n = ap (λ l. 32 ∷ l) (append-nil (decimal n))
spaced_push (m ∷ ns) n = ap (λ l. 32 ∷ decimal m ++ l) (spaced_push ns n) ∙ ap (λ l. 32 ∷ l) (sym (append_assoc (decimal m) (with_spaces ns) (32 ∷ decimal n)))

-- one more number
pub spaced_more : (ns : List ℕ) (i d : ℕ) → i < length ns → with_spaces (take (i + 1) ns) ≡ with_spaces (take i ns) ++ 32 ∷ decimal (get_or ns i d)
spaced_more ns i d low = ap with_spaces (take_more ns i d low) ∙ spaced_push (take i ns) (get_or ns i d)

-- all numbers
pub spaced_all : (ns : List ℕ) (i : ℕ) → length ns ≤ i → with_spaces (take i ns) ≡ with_spaces ns
spaced_all ns i all = ap with_spaces (take_all i ns all)
