-- A text has a line for each line feed, and one more if its last byte is not a line feed.
use Rattle.std.proofs.Common.{◌≡◌, ℕ, true, false, cond, arith, ap, sym}
use Rattle.std.proofs.lemmas.Bool.Decides.{nat_tests}
use Rattle.moc_text.specs.Lines.{is_line_feed}
use Rattle.moc_lines.proofs.LineLemmas.{lines-after_last_feed}
use Rattle.moc_lines.proofs.reading.line_after_last.Goals as goal

pub returns-in-Some-eq10 : goal.returns-in-Some-eq10
returns-in-Some-eq10 c =
    let counted = lines-after_last_feed c.args.input.now c.in-Some-eq10.field-0.now (sym c.in-Some-eq10.ensures.value) in
    let is : is_line_feed c.in-Some-eq10.field-0.now ≡ true = grind (arith, nat_tests, c.in-Some-eq10.field-0-test) in
    omega (arith, counted, ap {B = ℕ} (λ b. cond b 0 1) is, c.line_feeds-whole.ensures.count)

pub returns-in-Some : goal.returns-in-Some
returns-in-Some c =
    let counted = lines-after_last_feed c.args.input.now c.in-Some.field-0.now (sym c.in-Some.ensures.value) in
    let is : is_line_feed c.in-Some.field-0.now ≡ false = grind (arith, nat_tests, c.in-Some.field-0-test) in
    omega (arith, counted, ap {B = ℕ} (λ b. cond b 0 1) is, c.line_feeds-whole.ensures.count)
