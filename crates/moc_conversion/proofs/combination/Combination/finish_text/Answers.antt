use Rattle.std.proofs.Common.{◌≤◌, arith, inl, refl}
use Rattle.moc_conversion.specs.Combining.{count_limit}
use Rattle.moc_conversion.proofs.Checks.{error_passed_to_result}
use Rattle.moc_conversion.proofs.Combinations.{finished_text_fails, finishes_text, too_many}
use Rattle.moc_conversion.proofs.combination.Combination.finish_text.Goals as goal

pub returns-clause-processes : goal.returns-clause-processes
returns-clause-processes c =
    finishes_text _ _ refl refl c.in-Some.ensures.1 c.take-before.result c.in_ok-parsed.parsed c.take-before.ensures.value c.requires
    c.in_ok-parsed.ensures.represents c.clear.ensures.items c.first_without_cells-self.ensures refl

pub returns-in_default-clause-error : goal.returns-in_default-clause-error
returns-in_default-clause-error c =
    let many : count_limit ≤ c.args.self.now.number = omega (arith, c.in_default.ensures) in
    inl (too_many c.args.self.now c.too_long.result many c.too_long.ensures)

pub returns-in_err-parsed-clause-error : goal.returns-in_err-parsed-clause-error
returns-in_err-parsed-clause-error c =
    error_passed_to_result c.from_residual.result c.in_err-parsed.field-0.0 _ c.from_residual.ensures.1
    (finished_text_fails c.args.self.now _ c.requires c.in_err-parsed.ensures.reported)
