-- Another digit, and another byte.
use Rattle.std.proofs.Common.{◌+◌, ◌*◌, ◌∙◌, sym, ap, get_or, arith}
use Rattle.moc_lines.proofs.NumberLemmas.{decimal_value-other, digits-more, short-more, short-fits}
use Rattle.moc_lines.proofs.words.parse_short_decimal.Goals as goal

pub returns-then-not-is_ascii_digit-clause-number : goal.returns-then-not-is_ascii_digit-clause-number
returns-then-not-is_ascii_digit-clause-number c =
    sym (decimal_value-other c.args.field.now c.loop-byte.byte-index 0 c.loop-byte-test.true (sym c.is_ascii_digit.ensures.value ∙ c.if-not-is_ascii_digit.true))

pub overflow_mul-value : goal.overflow_mul-value
overflow_mul-value c =
    let digit = sym c.is_ascii_digit.ensures.value ∙ c.if-not-is_ascii_digit.false in
    omega (arith, short-fits c.loop-byte.value (get_or c.args.field.now c.loop-byte.byte-index 0) c.loop-byte.byte-index c.loop-byte.invariant.small (omega arith) digit)

pub overflow_add-value : goal.overflow_add-value
overflow_add-value c =
    let digit = sym c.is_ascii_digit.ensures.value ∙ c.if-not-is_ascii_digit.false in
    omega (arith, short-fits c.loop-byte.value (get_or c.args.field.now c.loop-byte.byte-index 0) c.loop-byte.byte-index c.loop-byte.invariant.small (omega arith) digit)

pub loop-byte-preserved : goal.loop-byte-preserved
loop-byte-preserved c =
    let digit = sym c.is_ascii_digit.ensures.value ∙ c.if-not-is_ascii_digit.false in
    let next = short-more c.args.field.now c.loop-byte.byte-index c.loop-byte.value c.loop-byte-test.true digit c.loop-byte.invariant.value c.loop-byte.invariant.small in
    record {
      digits = digits-more c.args.field.now c.loop-byte.byte-index c.loop-byte-test.true digit c.loop-byte.invariant.digits;
      value = ap (λ x. c.loop-byte.value * 10 + x) c.from.ensures ∙ next.0;
      small = rw c.from.ensures next.1;
    }
