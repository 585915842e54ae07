use Rattle.std.proofs.Common.{◌≡◌, ◌+◌, arith, length-set}
use Rattle.std.specs.Prelude.{decimal}
use Rattle.std.proofs.lemmas.Fmt.{length-decimal-le}
use Rattle.moc_text.proofs.Buffering.{bytes_before_number}
use Rattle.moc_text.proofs.text_writer.write_number.Goals as goal

pub overflow_add-end-2 : goal.overflow_add-end-2
overflow_add-end-2 c = omega (arith, c.digit_count.ensures, length-decimal-le 20 c.args.number (omega arith) (omega arith) c.ranges.number.fits)

pub write_digits-requires : goal.write_digits-requires
write_digits-requires c =
    (omega (arith, c.digit_count.ensures), omega (arith, c.digit_count.ensures, length-decimal-le 20 c.args.number (omega arith) (omega arith) c.ranges.number.fits, c.told-buffer, length-set c.args.buffer.now c.args.at c.args.before))

pub returns-clause-written : goal.returns-clause-written
returns-clause-written c =
    let w = c.write_digits in
    let start : w.result ≡ c.args.at + 1 = omega (arith, w.ensures.start, c.digit_count.ensures) in
    let end = c.args.at + 1 + c.digit_count.result in
    bytes_before_number c.args.at end c.args.before (decimal c.args.number) c.args.buffer.now w.new.buf (omega (arith, c.told-buffer)) (omega (arith, c.digit_count.ensures))
    (rw start at w.ensures.before) (rw start at w.ensures.written)

pub returns-clause-within : goal.returns-clause-within
returns-clause-within c = omega (arith, c.digit_count.ensures, length-decimal-le 20 c.args.number (omega arith) (omega arith) c.ranges.number.fits)
