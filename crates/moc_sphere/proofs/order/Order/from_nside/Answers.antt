use Rattle.std.proofs.Common.{◌≡◌, ◌∙◌, ◌^◌, ap, Ok, sym, arith}
use Rattle.std.proofs.lemmas.Nat.{pow_pos}
use Rattle.moc_sphere.proofs.Powers.{exponent_small, exponent_is_unique, two_pow_le}
use Rattle.moc_sphere.proofs.order.Order.from_nside.Goals as goal
use Rattle.moc_sphere.proofs.order.Order.from_nside.Goals.{then-nside-eq0-via-then-nside-eq0, then-nside-eq0-via-else-nside-eq0+then-nside}

pub returns-then-nside-eq0-clause-only : goal.returns-then-nside-eq0-clause-only
returns-then-nside-eq0-clause-only c = λ k small is.
    elim c.then-nside-eq0.branch [
      | then-nside-eq0-via-then-nside-eq0 w ↦ let none = w.if-nside-eq0.true in absurd (omega (arith, pow_pos k))
      | then-nside-eq0-via-else-nside-eq0+then-nside w ↦ let past = w.if-nside.true in absurd (omega (arith, two_pow_le k small))
    ]

pub of-order-requires : goal.of-order-requires
of-order-requires c = exponent_small c.ilog2.result c.args.nside c.ilog2.ensures.power_le (omega arith)

pub returns-then-nside-2-clause-only : goal.returns-then-nside-2-clause-only
returns-then-nside-2-clause-only c = λ k small is.
    let same : k ≡ c.ilog2.result = exponent_is_unique k c.ilog2.result (omega (arith, c.ilog2.ensures.power_le)) (omega (arith, c.ilog2.ensures.next_power_gt)) in
    let other = c.if-nside-2.true in
    let of : 2 ^ c.of-order.result ≡ 2 ^ k = ap (λ n. 2 ^ n) (c.of-order.ensures ∙ sym same) in
    absurd (omega (arith, c.nside.ensures.value))

pub returns-clause-only : goal.returns-clause-only
returns-clause-only c = λ k small is.
    let same : k ≡ c.ilog2.result = exponent_is_unique k c.ilog2.result (omega (arith, c.ilog2.ensures.power_le)) (omega (arith, c.ilog2.ensures.next_power_gt)) in
    ap Ok (c.of-order.ensures ∙ sym same)
