-- Whether an element of a list passes a test, from the front.
use Rattle.std.proofs.Common.{◌≡◌, ◌||◌, ◌∙◌, ℕ, ◌+◌, ◌<◌, ◌≤◌, Bool, true, false, List, length, get_or, drop, sym, ap}
use Rattle.std.proofs.lemmas.List.{at_drop_more, at_drop_all}
use Rattle.std.specs.List.{list_any}

module _ {X : Type 0} (test : X → Bool) (xs : List X) (n : ℕ) where
  step : (x : X) → n < length xs → x ≡ get_or xs n x → (b : Bool) → test x ≡ b → list_any test (drop n xs) ≡ b || list_any test (drop (n + 1) xs)
  step x low at b e = at_drop_more (list_any test) xs n x low ∙ ap (λ a. a || list_any test (drop (n + 1) xs)) (ap test (sym at) ∙ e)

  -- one passes here
  pub any_at : (x : X) → n < length xs → x ≡ get_or xs n x → test x ≡ true → list_any test (drop n xs) ≡ list_any test xs → true ≡ list_any test xs
  any_at x low at is so_far = sym (step x low at true is) ∙ so_far

  -- none passes here
  pub any_after : (x : X) → n < length xs → x ≡ get_or xs n x → test x ≡ false → list_any test (drop n xs) ≡ list_any test xs
      → list_any test (drop (n + 1) xs) ≡ list_any test xs
  any_after x low at fails so_far = sym (step x low at false fails) ∙ so_far

  -- none passes
  pub any_end : length xs ≤ n → list_any test (drop n xs) ≡ list_any test xs → false ≡ list_any test xs
  any_end all so_far = sym (at_drop_all (list_any test) xs n all) ∙ so_far
