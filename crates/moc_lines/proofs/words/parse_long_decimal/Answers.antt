-- Another digit, and another byte.
use Rattle.std.specs.Option.{option_map}
use Rattle.std.proofs.Common.{◌+◌, ◌*◌, min, sym, ap, ◌∙◌}
use Rattle.moc_lines.proofs.NumberLemmas.{decimal_value-other, value-more, digits-more}
use Rattle.moc_lines.proofs.words.parse_long_decimal.Goals as goal

pub returns-then-not-is_ascii_digit : goal.returns-then-not-is_ascii_digit
returns-then-not-is_ascii_digit c =
    let none = decimal_value-other c.args.field.now c.loop-byte.byte-index 0 c.loop-byte-test.true (sym c.is_ascii_digit.ensures.value ∙ c.if-not-is_ascii_digit.true) in
    ap (option_map (λ n. min n 18446744073709551615)) (sym none)

pub loop-byte-preserved : goal.loop-byte-preserved
loop-byte-preserved c =
    let digit = sym c.is_ascii_digit.ensures.value ∙ c.if-not-is_ascii_digit.false in
    let more = value-more 18446744073709551615 c.args.field.now c.loop-byte.byte-index c.loop-byte.value c.loop-byte-test.true digit c.loop-byte.invariant.value in
    record {
      digits = digits-more c.args.field.now c.loop-byte.byte-index c.loop-byte-test.true digit c.loop-byte.invariant.digits;
      value = c.saturating_add-value.ensures ∙ ap (λ n. min (n + c.from.result) 18446744073709551615) c.saturating_mul.ensures
          ∙ ap (λ n. min (min (c.loop-byte.value * 10) 18446744073709551615 + n) 18446744073709551615) c.from.ensures ∙ more;
    }
