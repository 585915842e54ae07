use Rattle.std.proofs.Common.{◌∙◌, ◌++◌, ℕ, List, ap}
use Rattle.std.specs.String.{string_bytes}
use Rattle.moc_web.proofs.examining.examine.Goals as goal

pub returns-clause-examines : goal.returns-clause-examines
returns-clause-examines c = (
  c.in_ok-parsed.parsed,
  c.in_ok-parsed.ensures.represents,
  (
    string_bytes c.in_ok-output.output,
    c.in_ok-output.ensures,
    c.in_ok-push_str.ensures.bytes
        ∙ ap (λ (bytes : List ℕ). string_bytes c.in_ok-output.output ++ bytes) (c.as_str.ensures.value ∙ c.in_ok-picture.ensures),
  ),
)
