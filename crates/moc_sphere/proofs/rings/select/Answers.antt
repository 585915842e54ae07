use Rattle.std.proofs.Common.{◌≡◌, ℕ, ◌+◌, ◌-◌, ◌%◌, ◌^◌, ◌<◌, ap, ◌∙◌, arith}
use Rattle.std.specs.Prelude.{bit_and}
use Rattle.std.proofs.lemmas.Nat.{and_le_r, and_mask}
use Rattle.moc_sphere.proofs.rings.select.Goals as goal

abbrev from_to : ℕ → ℕ → ℕ
from_to a b = (b + (2 ^ 64 - a)) % 2 ^ 64

select_first : (a b w : ℕ) → a < 2 ^ 64 → w ≡ 0 → (a + bit_and (from_to a b) (from_to w 0)) % 2 ^ 64 ≡ a
select_first a b w small none =
    let mask : from_to w 0 ≡ 0 = omega arith in
    omega (arith, and_le_r (from_to a b) (from_to w 0))

select_second : (a b w : ℕ) → a < 2 ^ 64 → b < 2 ^ 64 → w ≡ 1 → (a + bit_and (from_to a b) (from_to w 0)) % 2 ^ 64 ≡ b
select_second a b w small low one =
    let mask : from_to w 0 ≡ 2 ^ 64 - 1 = omega arith in
    let whole : bit_and (from_to a b) (from_to w 0) ≡ from_to a b % 2 ^ 64 = ap (bit_and (from_to a b)) mask ∙ and_mask (from_to a b) 64 in
    omega (arith, whole)

pub returns-clause-first : goal.returns-clause-first
returns-clause-first c = λ none. select_first c.args.first c.args.second c.args.which (omega arith) none

pub returns-clause-second : goal.returns-clause-second
returns-clause-second c = λ one. select_second c.args.first c.args.second c.args.which (omega arith) (omega arith) one
