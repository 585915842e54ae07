-- Elements that are dealt to lanes.
use Rattle.std.proofs.Common.{◌≡◌, ◌≢◌, ◌⊎◌, inl, inr, ℕ, zero, suc, ◌+◌, ◌-◌, ◌%◌, ◌<◌, ◌≤◌, ◌==◌, eq-eqb, ne_eqb}
use Rattle.std.proofs.Common.{Bool, true, false, if◌then◌else◌, List, [], ◌∷◌, ◌++◌, length, refl, sym, ap, ◌∙◌, arith}
use Rattle.std.proofs.Common.{append-nil, append_assoc, length-append, take, drop, length-take, length-drop, add-one}
use Rattle.std.proofs.lemmas.Bool.{cases_lt}
use Rattle.std.proofs.Math.Nat.{mod-one, mod-lt, mod-eq_of_lt, mod_self, suc-mod}
use Rattle.std.proofs.lemmas.List.{take-append-drop}
use Rattle.moc_script.specs.Crews.{InLane, put_in_lane, in_lane, dealt}
use Rattle.std.specs.List.{enumerate_from}
use Rattle.std.specs.Prelude.{map}
use Rattle.moc_script.specs.Private.Input.{in_turn}

-- the remainder of the next number is one more, or 0 after the greatest
pub next_rest : (n j : ℕ) → 0 < n → ((j % n + 1 < n) × ((j + 1) % n ≡ j % n + 1)) ⊎ ((j % n + 1 ≡ n) × ((j + 1) % n ≡ 0))
next_rest n j some =
    let low : j % n < n = mod-lt j some in
    let next : (j + 1) % n ≡ suc (j % n) % n = ap (λ m. m % n) (add-one j) ∙ suc-mod j n in
    elim (cases_lt (suc (j % n)) n) [
      | inl inside ↦ inl (omega arith, next ∙ mod-eq_of_lt inside ∙ sym (add-one (j % n)))
      | inr past ↦ let last : suc (j % n) ≡ n = omega arith in inr (omega arith, next ∙ ap (λ m. m % n) last ∙ mod_self n)
    ]

-- elements dealt to lanes in turn, the first of them to the lane j mod lanes
abbrev lanes_from : {A : Type 0} → ℕ → ℕ → List A → List (InLane A)
lanes_from {A} lanes j xs = map (λ (numbered : ℕ × A). put_in_lane (numbered.0 % lanes) numbered.1) (enumerate_from j xs)

module _ {A : Type 0} where
  pub in_lane-append : (lane : ℕ) (xs ys : List (InLane A)) → in_lane lane (xs ++ ys) ≡ in_lane lane xs ++ in_lane lane ys
  in_lane-append lane [] ys = refl
  in_lane-append lane (x ∷ xs) ys = by (x.lane == lane) (in_lane-append lane xs ys)
    where
      by : (b : Bool) → in_lane lane (xs ++ ys) ≡ in_lane lane xs ++ in_lane lane ys
          → (if b then x.it ∷ in_lane lane (xs ++ ys) else in_lane lane (xs ++ ys)) ≡ (if b then x.it ∷ in_lane lane xs else in_lane lane xs) ++ in_lane lane ys
      by true rest = ap (λ l. x.it ∷ l) rest
      by false rest = rest

  lanes_from-push : (lanes j : ℕ) (xs : List A) (x : A) → lanes_from lanes j (xs ++ x ∷ []) ≡ lanes_from lanes j xs ++ put_in_lane ((j + length xs) % lanes) x ∷ []
  lanes_from-push lanes j [] x = let same : j ≡ j + 0 = omega arith in ap (λ (n : ℕ). put_in_lane (n % lanes) x ∷ []) same
  lanes_from-push lanes j (y ∷ xs) x =
      let same : (j + 1) + length xs ≡ j + length (y ∷ xs) = omega arith in
      ap (λ l. put_in_lane (j % lanes) y ∷ l) (lanes_from-push lanes (j + 1) xs x ∙ ap (λ (n : ℕ). lanes_from lanes (j + 1) xs ++ put_in_lane (n % lanes) x ∷ []) same)

  -- one more element goes to the next lane
  pub dealt-push : (lanes : ℕ) (xs : List A) (x : A) → dealt lanes (xs ++ x ∷ []) ≡ dealt lanes xs ++ put_in_lane (length xs % lanes) x ∷ []
  dealt-push lanes xs x = let same : 0 + length xs ≡ length xs = omega arith in lanes_from-push lanes 0 xs x ∙ ap (λ (n : ℕ). dealt lanes xs ++ put_in_lane (n % lanes) x ∷ []) same

  -- a single lane has all elements
  pub dealt-alone : (j : ℕ) (xs : List A) → in_lane 0 (lanes_from 1 j xs) ≡ xs
  dealt-alone j [] = refl
  dealt-alone j (x ∷ xs) =
      ap (λ (lane : ℕ). if lane == 0 then x ∷ in_lane 0 (lanes_from 1 (j + 1) xs) else in_lane 0 (lanes_from 1 (j + 1) xs)) (mod-one j)
      ∙ ap (λ l. x ∷ l) (dealt-alone (j + 1) xs)

  pub in_lane-one : (lane : ℕ) (x : A) → in_lane lane (put_in_lane lane x ∷ []) ≡ x ∷ []
  in_lane-one lane x = ap (λ (b : Bool). if b then x ∷ [] else []) (eq-eqb lane lane refl)

  pub in_lane-other : (lane d : ℕ) (x : A) → d ≢ lane → in_lane d (put_in_lane lane x ∷ []) ≡ []
  in_lane-other lane d x other = ap (λ (b : Bool). if b then x ∷ [] else []) (ne_eqb lane d (λ e. other (sym e)))

  pub dealt-here : (lanes lane : ℕ) (xs : List A) (x : A) → length xs % lanes ≡ lane → in_lane lane (dealt lanes (xs ++ x ∷ [])) ≡ in_lane lane (dealt lanes xs) ++ x ∷ []
  dealt-here lanes lane xs x is =
      ap (in_lane lane) (dealt-push lanes xs x ∙ ap (λ (n : ℕ). dealt lanes xs ++ put_in_lane n x ∷ []) is) ∙ in_lane-append lane (dealt lanes xs) (put_in_lane lane x ∷ [])
      ∙ ap (λ l. in_lane lane (dealt lanes xs) ++ l) (in_lane-one lane x)

  pub dealt-else : (lanes lane : ℕ) (xs : List A) (x : A) → lane ≢ length xs % lanes → in_lane lane (dealt lanes (xs ++ x ∷ [])) ≡ in_lane lane (dealt lanes xs)
  dealt-else lanes lane xs x other =
      ap (in_lane lane) (dealt-push lanes xs x) ∙ in_lane-append lane (dealt lanes xs) (put_in_lane (length xs % lanes) x ∷ [])
      ∙ ap (λ l. in_lane lane (dealt lanes xs) ++ l) (in_lane-other (length xs % lanes) lane x other) ∙ append-nil (in_lane lane (dealt lanes xs))

  none_from : (lanes j lane : ℕ) (xs : List A) → 0 < lanes → lanes ≤ lane → in_lane lane (lanes_from lanes j xs) ≡ []
  none_from lanes j lane [] some high = refl
  none_from lanes j lane (x ∷ xs) some high =
      let other : j % lanes ≢ lane = λ e. absurd (omega arith) in
      ap (λ (b : Bool). if b then x ∷ in_lane lane (lanes_from lanes (j + 1) xs) else in_lane lane (lanes_from lanes (j + 1) xs)) (ne_eqb (j % lanes) lane other)
      ∙ none_from lanes (j + 1) lane xs some high

  -- a lane that does not exist has no elements
  pub none_above : (lanes lane : ℕ) (xs : List A) → 0 < lanes → lanes ≤ lane → in_lane lane (dealt lanes xs) ≡ []
  none_above lanes lane xs some high = none_from lanes 0 lane xs some high

module _ {A B : Type 0} where
  as_long_from : (lanes j lane : ℕ) (xs : List A) (ys : List B) → length xs ≡ length ys → length (in_lane lane (lanes_from lanes j xs)) ≡ length (in_lane lane (lanes_from lanes j ys))
  as_long_from lanes j lane [] [] same = refl
  as_long_from lanes j lane [] (y ∷ ys) same = absurd (omega arith)
  as_long_from lanes j lane (x ∷ xs) [] same = absurd (omega arith)
  as_long_from lanes j lane (x ∷ xs) (y ∷ ys) same = by ((j % lanes) == lane) (as_long_from lanes (j + 1) lane xs ys (omega arith))
    where
      by : (b : Bool) → length (in_lane lane (lanes_from lanes (j + 1) xs)) ≡ length (in_lane lane (lanes_from lanes (j + 1) ys))
          → length (if b then x ∷ in_lane lane (lanes_from lanes (j + 1) xs) else in_lane lane (lanes_from lanes (j + 1) xs)) ≡ length (if b then y ∷ in_lane lane (lanes_from lanes (j + 1) ys) else in_lane lane (lanes_from lanes (j + 1) ys))
      by true rest = ap suc rest
      by false rest = rest

  -- lists of the same length give lanes of the same length
  pub as_long : (lanes lane : ℕ) (xs : List A) (ys : List B) → length xs ≡ length ys → length (in_lane lane (dealt lanes xs)) ≡ length (in_lane lane (dealt lanes ys))
  as_long lanes lane xs ys same = as_long_from lanes 0 lane xs ys same

module _ {A : Type 0} where
  grows_from : (lanes j lane : ℕ) (xs more : List A) → length (in_lane lane (lanes_from lanes j xs)) ≤ length (in_lane lane (lanes_from lanes j (xs ++ more)))
  grows_from lanes j lane [] more = omega arith
  grows_from lanes j lane (x ∷ xs) more = by ((j % lanes) == lane) (grows_from lanes (j + 1) lane xs more)
    where
      by : (b : Bool) → length (in_lane lane (lanes_from lanes (j + 1) xs)) ≤ length (in_lane lane (lanes_from lanes (j + 1) (xs ++ more)))
          → length (if b then x ∷ in_lane lane (lanes_from lanes (j + 1) xs) else in_lane lane (lanes_from lanes (j + 1) xs)) ≤ length (if b then x ∷ in_lane lane (lanes_from lanes (j + 1) (xs ++ more)) else in_lane lane (lanes_from lanes (j + 1) (xs ++ more)))
      by true rest = omega arith
      by false rest = rest

  -- while elements remain, the next lane gets one more
  pub more_left : (lanes lane : ℕ) (front back : List A) (x : A) → length front % lanes ≡ lane → length (in_lane lane (dealt lanes front)) < length (in_lane lane (dealt lanes (front ++ x ∷ back)))
  more_left lanes lane front back x is =
      let longer = ap length (dealt-here lanes lane front x is) ∙ length-append (in_lane lane (dealt lanes front)) (x ∷ []) in
      let whole = ap (λ l. length (in_lane lane (dealt lanes l))) (append_assoc front (x ∷ []) back) in
      let less = grows_from lanes 0 lane (front ++ x ∷ []) back in
      omega (arith, longer, whole, less)

  -- the same for lists with given lengths
  pub next_left : {B : Type 0} (lanes lane : ℕ) (done : List B) (all : List A) → length done < length all → length done % lanes ≡ lane → length (in_lane lane (dealt lanes done)) < length (in_lane lane (dealt lanes all))
  next_left lanes lane done all less is = by (drop (length done) all) refl
    where
      front : List A
      front = take (length done) all

      long : length front ≡ length done
      long = omega (arith, length-take (length done) all)

      by : (back : List A) → drop (length done) all ≡ back → length (in_lane lane (dealt lanes done)) < length (in_lane lane (dealt lanes all))
      by [] none = absurd (omega (arith, ap length none, length-drop (length done) all))
      by (x ∷ back) some =
          let whole : front ++ x ∷ back ≡ all = ap (λ l. front ++ l) (sym some) ∙ take-append-drop (length done) all in
          let more = more_left lanes lane front back x (ap (λ (n : ℕ). n % lanes) long ∙ is) in
          let same = as_long lanes lane front done long in
          let full = ap (λ l. length (in_lane lane (dealt lanes l))) whole in
          omega (arith, more, same, full)

module _ {A : Type 0} where
  turns_from : (others j lane turn : ℕ) (xs : List A) → turn ≤ others → lane ≤ others
      → (j % suc others + turn ≡ lane) ⊎ (j % suc others + turn ≡ lane + suc others)
      → in_turn others turn xs ≡ in_lane lane (lanes_from (suc others) j xs)
  turns_from others j lane turn [] few low at = refl
  turns_from others j lane zero (x ∷ xs) few low at =
      let inside : j % suc others < suc others = mod-lt j (omega arith) in
      let here : j % suc others ≡ lane = elim at [ inl e ↦ omega arith | inr e ↦ absurd (omega arith) ] in
      let next : ((j + 1) % suc others + others ≡ lane) ⊎ ((j + 1) % suc others + others ≡ lane + suc others) =
      elim (next_rest (suc others) j (omega arith)) [ inl n ↦ inr (omega (arith, n.1)) | inr n ↦ inl (omega (arith, n.0, n.1)) ] in
      ap (λ l. x ∷ l) (turns_from others (j + 1) lane others xs (omega arith) low next)
      ∙ ap (λ (b : Bool). if b then x ∷ in_lane lane (lanes_from (suc others) (j + 1) xs) else in_lane lane (lanes_from (suc others) (j + 1) xs)) (sym (eq-eqb (j % suc others) lane here))
  turns_from others j lane (suc turn) (x ∷ xs) few low at =
      let inside : j % suc others < suc others = mod-lt j (omega arith) in
      let other : j % suc others ≢ lane = λ e. elim at [ inl f ↦ absurd (omega arith) | inr f ↦ absurd (omega arith) ] in
      let next : ((j + 1) % suc others + turn ≡ lane) ⊎ ((j + 1) % suc others + turn ≡ lane + suc others) =
      elim (next_rest (suc others) j (omega arith)) [
        | inl n ↦ elim at [ inl f ↦ inl (omega (arith, n.1)) | inr f ↦ inr (omega (arith, n.1)) ]
        | inr n ↦ elim at [ inl f ↦ absurd (omega (arith, n.0)) | inr f ↦ inl (omega (arith, n.0, n.1)) ]
      ] in
      turns_from others (j + 1) lane turn xs (omega arith) low next
      ∙ ap (λ (b : Bool). if b then x ∷ in_lane lane (lanes_from (suc others) (j + 1) xs) else in_lane lane (lanes_from (suc others) (j + 1) xs)) (sym (ne_eqb (j % suc others) lane other))

  -- the first element of a lane comes after one of each lane before it, and each other element after one of all other
  -- lanes
  pub turns_of_lane : (lanes lane : ℕ) (xs : List A) → lane < lanes → in_turn (lanes - 1) lane xs ≡ in_lane lane (dealt lanes xs)
  turns_of_lane lanes lane xs low =
      let all : suc (lanes - 1) ≡ lanes = omega arith in
      turns_from (lanes - 1) 0 lane lane xs (omega arith) (omega arith) (inl (ap (λ n. n + lane) (mod-eq_of_lt {n = 0} {m = suc (lanes - 1)} (omega arith)) ∙ omega arith))
      ∙ ap (λ (n : ℕ). in_lane lane (dealt n xs)) all
