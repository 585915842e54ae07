-- Numbers that are collected in a buffer.
use Rattle.std.proofs.Common.{◌≡◌, ℕ, zero, suc, ◌+◌, ◌*◌, ◌/◌, ◌%◌, ◌^◌, ◌<◌, ◌≤◌, List, [], ◌∷◌, ◌++◌, length, take, drop, set, ap, ◌∙◌, arith, length-append, append_assoc}
use Rattle.std.specs.Prelude.{decimal}
use Rattle.std.proofs.Math.Nat.{one-le-pow, pow-succ'}
use Rattle.std.proofs.Math.Seq.{take-add, take-append_seam}
use Rattle.std.proofs.lemmas.Fmt.{decimal_nonempty, decimal_step, length-decimal-le}
use Rattle.std.proofs.lemmas.List.{take_more_set}

-- a number that is at least a power of ten has more digits than the exponent
digits_at_least : (k n : ℕ) → 10 ^ k ≤ n → n < 2 ^ 64 → k < length (decimal n)
digits_at_least zero n le lt = decimal_nonempty n lt
digits_at_least (suc k) n le lt =
    let more : 10 ^ suc k ≡ 10 * 10 ^ k = pow-succ' 10 k in
    let front = digits_at_least k (n / 10) (omega (arith, le, more)) (omega (arith, lt)) in
    let step : decimal n ≡ decimal (n / 10) ++ (48 + n % 10) ∷ [] = decimal_step n (omega (arith, le, more, one-le-pow k 10 (omega arith))) lt in
    omega (arith, front, ap (λ (ds : List ℕ). length ds) step, length-append (decimal (n / 10)) ((48 + n % 10) ∷ []))

pub digits_between : (k n : ℕ) → 10 ^ k ≤ n → n < 10 * 10 ^ k → n < 2 ^ 64 → k + 1 ≡ length (decimal n)
digits_between k n low high lt =
    let next : 10 ^ suc k ≡ 10 * 10 ^ k = pow-succ' 10 k in
    omega (arith, digits_at_least k n low lt, length-decimal-le (suc k) n (omega arith) (omega (arith, high, next)) lt)

-- the content of a buffer up to the end of a number that is written after a byte
pub bytes_before_number : (at end before : ℕ) (number old new : List ℕ) → at < length old → end ≡ at + 1 + length number → take (at + 1) new ≡ take (at + 1) (set old at before)
    → drop (at + 1) new ≡ number ++ drop end (set old at before) → take end new ≡ take at old ++ before ∷ number
bytes_before_number at end before number old new lt is front back =
    ap (λ n. take n new) is ∙ take-add (at + 1) (length number) new
    ∙ (λ i. front i ++ take (length number) (back i))
    ∙ (λ i. take_more_set old at before lt i ++ take-append_seam number (drop end (set old at before)) i)
    ∙ append_assoc (take at old) (before ∷ []) number
