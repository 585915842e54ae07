-- The result for the number that was read.
use Rattle.std.proofs.Common.{◌≤◌, sym, ◌∙◌, arith}
use Rattle.moc_lines.specs.Numberings.{number_of_line}
use Rattle.moc_lines.proofs.NumberingLemmas.{converted_by_bind}
use Rattle.moc_lines.proofs.renumbering.Renumbering.apply_to_line.Goals as goal

pub returns : goal.returns
returns c =
    let small : c.args.self.order ≤ 29 = omega (arith, c.get.ensures.value, c.get.ensures.in_range) in
    let read = sym c.in_ok-read_number.was ∙ c.read_number.ensures in
    c.apply.ensures ∙ converted_by_bind c.args.self (number_of_line c.args.line.now) c.in_ok-read_number.field-0 small read
