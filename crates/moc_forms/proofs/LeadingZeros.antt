-- The output of a number with leading zeros.
use Rattle.std.proofs.Common.{◌≡◌, ◌-◌, ◌^◌, ℕ, List, ◌++◌, [], length, decimal, replicate, ap, ◌∙◌, append-nil, arith}
use Rattle.std.specs.Fmt.{styled_decimal, format_spec, padded_integral, char_count}
use Rattle.moc_forms.specs.Describing.{digits_with_zeros}

-- the output of `{:012}`
pub twelve_digits : (n : ℕ) → styled_decimal (format_spec 32 0 4 12 (2 ^ 64 - 1)) n ≡ digits_with_zeros 12 n
unfolding padded_integral char_count
twelve_digits n =
    let gap : 12 - length (decimal n) - 0 - 0 ≡ 12 - length (decimal n) = omega arith in
    ap (λ k. replicate k 48 ++ (decimal n ++ [])) gap ∙ ap (λ (ds : List ℕ). replicate (12 - length (decimal n)) 48 ++ ds) (append-nil (decimal n))

-- the output of `{:024}`
pub twenty_four_digits : (n : ℕ) → styled_decimal (format_spec 32 0 4 24 (2 ^ 64 - 1)) n ≡ digits_with_zeros 24 n
unfolding padded_integral char_count
twenty_four_digits n =
    let gap : 24 - length (decimal n) - 0 - 0 ≡ 24 - length (decimal n) = omega arith in
    ap (λ k. replicate k 48 ++ (decimal n ++ [])) gap ∙ ap (λ (ds : List ℕ). replicate (24 - length (decimal n)) 48 ++ ds) (append-nil (decimal n))
