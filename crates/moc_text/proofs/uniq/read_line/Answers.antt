use Rattle.std.proofs.Common.{◌≡◌, true, false, length, Some, None, sym, ap, ◌∙◌, arith, inr}
use Rattle.moc_text.specs.Private.Scan.{after_digits}
use Rattle.moc_text.specs.Private.UniqReading.{after_line_feed}
use Rattle.moc_text.proofs.UniqLines.{line_bad, line_empty, line_cell, line_wrong}
use Rattle.moc_text.proofs.uniq.read_line.Goals as goal

pub returns-in_default : goal.returns-in_default
returns-in_default c =
    let none : after_line_feed (after_digits c.args.bytes.now) ≡ None = ap after_line_feed (sym c.digits-value.ensures.rest) ∙ sym c.in_default.ensures in
    inr (line_bad c.args.line c.args.bytes.now none)

pub returns-then-after-bytes : goal.returns-then-after-bytes
returns-then-after-bytes c =
    let ends : after_line_feed (after_digits c.args.bytes.now) ≡ Some c.in-Some.rest.now = ap after_line_feed (sym c.digits-value.ensures.rest) ∙ sym c.in-Some.ensures in
    line_empty c.args.line c.args.bytes.now c.in-Some.rest.now c.args.cells.now c.requires ends (ap length (sym c.digits-value.ensures.rest) ∙ c.if-after-bytes.true)

pub returns-in_default-from_uniq : goal.returns-in_default-from_uniq
returns-in_default-from_uniq c =
    let ends : after_line_feed (after_digits c.args.bytes.now) ≡ Some c.in-Some.rest.now = ap after_line_feed (sym c.digits-value.ensures.rest) ∙ sym c.in-Some.ensures in
    inr (line_wrong c.args.line c.args.bytes.now c.in-Some.rest.now c.requires ends (λ e. c.if-after-bytes.false (ap length c.digits-value.ensures.rest ∙ e))
    (λ r. let no : false ≡ true = c.in_default-from_uniq.ensures.found.1 (omega (arith, r.0, c.digits-value.ensures.value), omega (arith, r.1, c.digits-value.ensures.value)) in absurd cc))

pub returns : goal.returns
returns c =
    let ends : after_line_feed (after_digits c.args.bytes.now) ≡ Some c.in-Some.rest.now = ap after_line_feed (sym c.digits-value.ensures.rest) ∙ sym c.in-Some.ensures in
    let k = c.in-Ok.ensures.number in
    line_cell c.args.line c.args.bytes.now c.in-Some.rest.now c.args.cells.now c.add_cell.new.self c.in-Ok.cell c.requires ends (λ e. c.if-after-bytes.false (ap length c.digits-value.ensures.rest ∙ e)) k.0 (k.1 ∙ c.digits-value.ensures.value) c.in_ok-add_cell.ensures.added
