-- The lowest parts in ascending order, from which an iteration removes the last.
use Rattle.std.proofs.Common.{◌≡◌, ℕ, zero, suc, ◌+◌, ◌≤◌, ◌<◌, List, [], ◌∷◌, ◌++◌, length, get_or, refl, sym, ap, subst, ◌∙◌, arith}
use Rattle.moc_parts.specs.Lemmas.{all_parts}

pub record AreFirstParts (parts : List ℕ) : Type 0 where
  pub small : length parts ≤ 12
  pub at : (k : ℕ) → k < length parts → get_or parts k 0 ≡ k

pub all_parts_are_first : (parts : List ℕ)
    → parts ≡ 0 ∷ (1 ∷ (2 ∷ (3 ∷ (4 ∷ (5 ∷ (6 ∷ (7 ∷ (8 ∷ (9 ∷ (10 ∷ (11 ∷ []))))))))))) → (length parts ≡ 12) × AreFirstParts parts
all_parts_are_first parts is =
    let many : length parts ≡ 12 = ap length is in (
      many,
      record {
        small = omega (arith, many);
        at = λ k l. ap (λ xs. get_or xs k 0) is ∙ all_parts k 0 (subst (λ n. k < n) many l);
      },
    )

length-more : (parts : List ℕ) (b : ℕ) → length (parts ++ b ∷ []) ≡ length parts + 1
length-more [] b = refl
length-more (x ∷ parts) b = let e = length-more parts b in omega (arith, e)

at_last : (parts : List ℕ) (b : ℕ) → get_or (parts ++ b ∷ []) (length parts) 0 ≡ b
at_last [] b = refl
at_last (x ∷ parts) b = at_last parts b

before_last : (parts : List ℕ) (b k : ℕ) → k < length parts → get_or (parts ++ b ∷ []) k 0 ≡ get_or parts k 0
before_last [] b k l = absurd (omega arith)
before_last (x ∷ parts) b zero l = refl
before_last (x ∷ parts) b (suc k) l = before_last parts b k (omega arith)

-- the last part is removed
pub record IsTaken (parts others : List ℕ) (b : ℕ) : Type 0 where
  pub fewer : length parts ≡ b + 1
  pub left : length others ≡ b
  pub below : b < 12
  pub ascending : AreFirstParts others

pub last_part_not_taken : (parts others : List ℕ) (b : ℕ) → parts ≡ others ++ b ∷ [] → AreFirstParts parts → IsTaken parts others b
last_part_not_taken parts others b is h =
    let many : length parts ≡ length others + 1 = ap length is ∙ length-more others b in
    let last : b ≡ length others =
    sym (at_last others b) ∙ ap (λ xs. get_or xs (length others) 0) (sym is) ∙ h.at (length others) (omega (arith, many)) in
    let small = h.small in
    record {
      fewer = omega (arith, many, last);
      left = sym last;
      below = omega (arith, many, last, small);
      ascending = record {
        small = omega (arith, many, small);
        at = λ k l.
            sym (before_last others b k l) ∙ ap (λ xs. get_or xs k 0) (sym is) ∙ h.at k (omega (arith, many, l));
      };
    }
