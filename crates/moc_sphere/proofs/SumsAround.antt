-- The nine sums except the middle one, sorted by five comparisons.
use Rattle.std.proofs.Common.{◌≡◌, ◌≢◌, ℕ, zero, suc, ◌<◌, ◌↔◌, min, max, List, [], ◌∷◌, ◌++◌, Contains, refl, sym, subst, inl, inr, arith}
use Rattle.std.specs.List.Sorted.{IsStrictlyIncreasing, IsPermutation}
use Rattle.std.proofs.lemmas.Bool.{cases_lt}
use Rattle.std.proofs.lemmas.List.Sorted.{IsPermutation-refl, IsPermutation-sym, IsPermutation-swap, IsPermutation-append_right, IsPermutation-trans, Contains-permutation}
use Rattle.moc_sphere.specs.Private.Sums.{sum_at}

-- ---- what the comparisons settle: of the sums beside the middle one, p and q precede it, s and t follow it
pub record IsOrdered (z p q m n s t w : ℕ) (A B C D E F b c d e : ℕ) : Type 0 where
  pub first : z < A
  pub second : A < b
  pub third : b < c
  pub fourth : c < d
  pub fifth : d < e
  pub sixth : e < F
  pub seventh : F < w

pub sums_are_ordered : (z p q m n s t w A B C D E F b c d e : ℕ) → z < p → z < q → p < m → q < n → p < s → p < t → q < s → q < t → m < s → n < t → s < w → t < w
    → p ≢ q → m ≢ n → s ≢ t → p ≢ n → q ≢ m → m ≢ t → n ≢ s
    → A ≡ min p q → B ≡ max p q → C ≡ min m n → D ≡ max m n → E ≡ min s t → F ≡ max s t → b ≡ min B C → c ≡ max B C → d ≡ min D E → e ≡ max D E
    → IsOrdered z p q m n s t w A B C D E F b c d e
sums_are_ordered z p q m n s t w A B C D E F b c d e zp zq pm qn ps pt qs qt ms nt sw tw pq mn st pn qm mt ns isA isB isC isD isE isF isb isc isd ise =
    let AB : A < B = omega arith in
    let CD : C < D = omega arith in
    let EF : E < F = omega arith in
    let AC : A < C = omega arith in
    let DF : D < F = omega arith in
    let BD : B < D = omega arith in
    let BE : B < E = omega arith in
    let CE : C < E = omega arith in
    let BC : B ≢ C = λ same. omega arith in
    let DE : D ≢ E = λ same. omega arith in
    record {
      first = omega arith;
      second = omega arith;
      third = omega arith;
      fourth = omega arith;
      fifth = omega arith;
      sixth = omega arith;
      seventh = omega arith;
    }

-- ---- the sums stay the same

-- two neighbours of a list, sorted
pub sorts_two : (before after : List ℕ) (a b lesser greater : ℕ) → lesser ≡ min a b → greater ≡ max a b → IsPermutation (before ++ a ∷ b ∷ after) (before ++ lesser ∷ greater ∷ after)
sorts_two before after a b lesser greater is_lesser is_greater = IsPermutation-append_right before (a ∷ b ∷ after) (lesser ∷ greater ∷ after) (elim (cases_lt b a) [
  | inr le ↦
      let same : lesser ≡ a = omega arith in
      let other : greater ≡ b = omega arith in
      subst (λ (l : List ℕ). IsPermutation (a ∷ b ∷ after) l) (λ i. sym same i ∷ sym other i ∷ after) (IsPermutation-refl (a ∷ b ∷ after))
  | inl gt ↦
      let same : lesser ≡ b = omega arith in
      let other : greater ≡ a = omega arith in
      IsPermutation-swap (a ∷ b ∷ after) (lesser ∷ greater ∷ after) 0 1 (omega arith) (omega arith) (λ i. same i ∷ other i ∷ after)
])

pub sums_of_corners : (z p q m n s t w A B C D E F b c d e : ℕ)
    → A ≡ min p q → B ≡ max p q → C ≡ min m n → D ≡ max m n → E ≡ min s t → F ≡ max s t → b ≡ min B C → c ≡ max B C → d ≡ min D E → e ≡ max D E
    → IsPermutation (z ∷ p ∷ q ∷ m ∷ n ∷ s ∷ t ∷ w ∷ []) (z ∷ A ∷ b ∷ c ∷ d ∷ e ∷ F ∷ w ∷ [])
sums_of_corners z p q m n s t w A B C D E F b c d e isA isB isC isD isE isF isb isc isd ise =
    IsPermutation-trans _ (z ∷ A ∷ B ∷ m ∷ n ∷ s ∷ t ∷ w ∷ []) _ (sorts_two (z ∷ []) (m ∷ n ∷ s ∷ t ∷ w ∷ []) p q A B isA isB)
    (IsPermutation-trans _ (z ∷ A ∷ B ∷ C ∷ D ∷ s ∷ t ∷ w ∷ []) _ (sorts_two (z ∷ A ∷ B ∷ []) (s ∷ t ∷ w ∷ []) m n C D isC isD)
    (IsPermutation-trans _ (z ∷ A ∷ B ∷ C ∷ D ∷ E ∷ F ∷ w ∷ []) _ (sorts_two (z ∷ A ∷ B ∷ C ∷ D ∷ []) (w ∷ []) s t E F isE isF)
    (IsPermutation-trans _ (z ∷ A ∷ b ∷ c ∷ D ∷ E ∷ F ∷ w ∷ []) _ (sorts_two (z ∷ A ∷ []) (D ∷ E ∷ F ∷ w ∷ []) B C b c isb isc)
    (sorts_two (z ∷ A ∷ b ∷ c ∷ []) (F ∷ w ∷ []) D E d e isd ise))))

-- the sums in the order in which they are compared
abbrev pub sorted_sums : List ℕ → List ℕ → List ℕ
sorted_sums across up = sum_at across up 0 ∷ sum_at across up 1 ∷ sum_at across up 3 ∷ sum_at across up 2 ∷ sum_at across up 6 ∷ sum_at across up 5 ∷ sum_at across up 7 ∷ sum_at across up 8 ∷ []

sum_of_place : (across up : List ℕ) (j : ℕ) → Contains (sorted_sums across up) j → (d : ℕ) × (d < 9) × (d ≢ 4) × (j ≡ sum_at across up d)
sum_of_place across up j (zero, l, e) = (0, omega arith, (λ h. omega arith), sym e)
sum_of_place across up j (suc zero, l, e) = (1, omega arith, (λ h. omega arith), sym e)
sum_of_place across up j (suc (suc zero), l, e) = (3, omega arith, (λ h. omega arith), sym e)
sum_of_place across up j (suc (suc (suc zero)), l, e) = (2, omega arith, (λ h. omega arith), sym e)
sum_of_place across up j (suc (suc (suc (suc zero))), l, e) = (6, omega arith, (λ h. omega arith), sym e)
sum_of_place across up j (suc (suc (suc (suc (suc zero)))), l, e) = (5, omega arith, (λ h. omega arith), sym e)
sum_of_place across up j (suc (suc (suc (suc (suc (suc zero))))), l, e) = (7, omega arith, (λ h. omega arith), sym e)
sum_of_place across up j (suc (suc (suc (suc (suc (suc (suc zero)))))), l, e) = (8, omega arith, (λ h. omega arith), sym e)
sum_of_place across up j (suc (suc (suc (suc (suc (suc (suc (suc k))))))), l, e) = absurd (omega arith)

place_of_sum : (across up : List ℕ) (j d : ℕ) → d < 9 → d ≢ 4 → j ≡ sum_at across up d → Contains (sorted_sums across up) j
place_of_sum across up j zero l off e = (0, omega arith, sym e)
place_of_sum across up j (suc zero) l off e = (1, omega arith, sym e)
place_of_sum across up j (suc (suc zero)) l off e = (3, omega arith, sym e)
place_of_sum across up j (suc (suc (suc zero))) l off e = (2, omega arith, sym e)
place_of_sum across up j (suc (suc (suc (suc zero)))) l off e = absurd (off refl)
place_of_sum across up j (suc (suc (suc (suc (suc zero))))) l off e = (5, omega arith, sym e)
place_of_sum across up j (suc (suc (suc (suc (suc (suc zero)))))) l off e = (4, omega arith, sym e)
place_of_sum across up j (suc (suc (suc (suc (suc (suc (suc zero))))))) l off e = (6, omega arith, sym e)
place_of_sum across up j (suc (suc (suc (suc (suc (suc (suc (suc zero)))))))) l off e = (7, omega arith, sym e)
place_of_sum across up j (suc (suc (suc (suc (suc (suc (suc (suc (suc d))))))))) l off e = absurd (omega arith)

-- a list that is a permutation of the sums as they are compared has exactly the sums
pub has_sums : (across up result : List ℕ) → IsPermutation (sorted_sums across up) result → (j : ℕ) → Contains result j ↔ ((d : ℕ) × (d < 9) × (d ≢ 4) × (j ≡ sum_at across up d))
has_sums across up result same j = (
  (λ has. sum_of_place across up j (Contains-permutation result (sorted_sums across up) j (IsPermutation-sym (sorted_sums across up) result same) has)),
  (λ sum. Contains-permutation (sorted_sums across up) result j same (place_of_sum across up j sum.0 sum.1 sum.2 sum.3)),
)

-- eight numbers in ascending order
pub eight_ascending : (a b c d e f g h : ℕ) → a < b → b < c → c < d → d < e → e < f → f < g → g < h → IsStrictlyIncreasing (a ∷ b ∷ c ∷ d ∷ e ∷ f ∷ g ∷ h ∷ [])
eight_ascending a b c d e f g h ab bc cd de ef fg gh zero l = ab
eight_ascending a b c d e f g h ab bc cd de ef fg gh (suc zero) l = bc
eight_ascending a b c d e f g h ab bc cd de ef fg gh (suc (suc zero)) l = cd
eight_ascending a b c d e f g h ab bc cd de ef fg gh (suc (suc (suc zero))) l = de
eight_ascending a b c d e f g h ab bc cd de ef fg gh (suc (suc (suc (suc zero)))) l = ef
eight_ascending a b c d e f g h ab bc cd de ef fg gh (suc (suc (suc (suc (suc zero))))) l = fg
eight_ascending a b c d e f g h ab bc cd de ef fg gh (suc (suc (suc (suc (suc (suc zero)))))) l = gh
eight_ascending a b c d e f g h ab bc cd de ef fg gh (suc (suc (suc (suc (suc (suc (suc k))))))) l = absurd (omega arith)
