use Rattle.std.proofs.Common.{sym, ap, arith, length, List, ℕ}
use Rattle.std.proofs.lemmas.Fmt.{decimal_digit}
use Rattle.moc_text.proofs.Buffering.{digits_between}
use Rattle.moc_text.proofs.text_writer.digit_count.Goals as goal

pub returns-in-Some : goal.returns-in-Some
returns-in-Some c = digits_between c.in-Some.log c.args.number c.in-Some.ensures.power_le c.in-Some.ensures.next_power_gt c.ranges.number.fits

pub returns-in-None : goal.returns-in-None
returns-in-None c = rw c.in-None.ensures.none (sym (ap (λ (ds : List ℕ). length ds) (decimal_digit 0 (omega arith))))
