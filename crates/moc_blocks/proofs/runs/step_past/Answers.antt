use Rattle.std.proofs.Common.{◌≡◌, ℕ, ◌+◌, ◌-◌, ◌%◌, ◌/◌, ◌^◌, ap, ◌∙◌, arith}
use Rattle.std.specs.Prelude.{bit_and}
use Rattle.std.proofs.lemmas.Nat.{and_le_r, and_mask}
use Rattle.moc_blocks.proofs.runs.step_past.Goals as goal

-- all ones if the end is at most the limit, and otherwise 0
abbrev mask_of : ℕ → ℕ → ℕ
mask_of end limit = (end + (2 ^ 128 - (limit + 1))) % 2 ^ 128 / 2 ^ 64

pub returns-clause-ended : goal.returns-clause-ended
returns-clause-ended c = λ le.
    let mask : mask_of c.from.result c.from-2.result ≡ 2 ^ 64 - 1 = omega (arith, le, c.from.ensures, c.from-2.ensures) in
    let whole : bit_and c.args.step (mask_of c.from.result c.from-2.result) ≡ c.args.step % 2 ^ 64 = ap (bit_and c.args.step) mask ∙ and_mask c.args.step 64 in
    omega (arith, whole)

pub returns-clause-later : goal.returns-clause-later
returns-clause-later c = λ lt.
    let mask : mask_of c.from.result c.from-2.result ≡ 0 = omega (arith, lt, c.from.ensures, c.from-2.ensures) in
    omega (arith, mask, and_le_r c.args.step (mask_of c.from.result c.from-2.result))
