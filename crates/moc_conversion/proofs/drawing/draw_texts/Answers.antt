use Rattle.std.proofs.Common.{◌≡◌, ◌⊎◌, ◌∙◌, ℕ, List, Option, None, Some, ap, inl, inr, subst₂, sym}
use Rattle.std.specs.Prelude.{option_map, string_bytes}
use Rattle.std.specs.Borrow.{Bor}
use Rattle.std.specs.List.{before_first}
use Rattle.moc_text.specs.Lines.{is_semicolon}
use Rattle.moc_forms.specs.Combining.{TextRepresents}
use Rattle.moc_forms.specs.declared.combining.ParsedCoverage.{ParsedCoverage}
use Rattle.moc_forms.specs.Finding.{format_for}
use Rattle.moc_forms.specs.declared.finding.FormatChoice.{FormatChoice}
use Rattle.moc_conversion.specs.Conversion.{IsPictureOf, ReportsError, ReportsFirstOfTexts, second_text}
use Rattle.moc_conversion.specs.declared.error.InputError.{InputError}
use Rattle.moc_conversion.specs.declared.error.InputError.TheVariants.{Memory}
use Rattle.moc_conversion.proofs.Checks.{error_passed_to_result}
use Rattle.moc_conversion.proofs.drawing.draw_texts.Goals as goal

abbrev bytes_of : Option (Bor (List ℕ)) → Option (List ℕ)
bytes_of second = option_map (λ (s : Bor (List ℕ)). s.now) second

-- what holds of the two texts that were returned holds of the texts of the bytes
of_texts : (P : List ℕ → Option (List ℕ) → Type 0) (bytes first : List ℕ) (second : Option (List ℕ)) (found : Option (Bor (List ℕ))) → before_first is_semicolon bytes ≡ first
    → second_text bytes ≡ bytes_of found → bytes_of found ≡ second → P first second → P (before_first is_semicolon bytes) (second_text bytes)
of_texts P bytes first second found one other is holds = subst₂ P (sym one) (sym (other ∙ is)) holds

-- the texts have an error
invalid : (choice : FormatChoice) (bytes first : List ℕ) (second : Option (List ℕ)) (found : Option (Bor (List ℕ))) (c : InputError) → before_first is_semicolon bytes ≡ first
    → second_text bytes ≡ bytes_of found → bytes_of found ≡ second → (c ≡ Memory) ⊎ ReportsFirstOfTexts choice first second c
    → (c ≡ Memory) ⊎ ReportsFirstOfTexts choice (before_first is_semicolon bytes) (second_text bytes) c
invalid choice bytes first second found c one other is (inl memory) = inl memory
invalid choice bytes first second found c one other is (inr diagnoses) =
    inr (of_texts (λ x y. ReportsFirstOfTexts choice x y c) bytes first second found one other is diagnoses)

first_fails : (choice : FormatChoice) (first second : List ℕ) (c : InputError) → (c ≡ Memory) ⊎ ReportsError (format_for choice first) first (Some 1) c
    → (c ≡ Memory) ⊎ ReportsFirstOfTexts choice first (Some second) c
first_fails choice first second c (inl memory) = inl memory
first_fails choice first second c (inr diagnoses) = inr (inl diagnoses)

second_fails : (choice : FormatChoice) (first second : List ℕ) (c : InputError) → ((parsed : ParsedCoverage) × TextRepresents choice first parsed)
    → (c ≡ Memory) ⊎ ReportsError (format_for choice second) second (Some 2) c → (c ≡ Memory) ⊎ ReportsFirstOfTexts choice first (Some second) c
second_fails choice first second c represents (inl memory) = inl memory
second_fails choice first second c represents (inr diagnoses) = inr (inr (represents, diagnoses))

pub returns-in_err-parsed-clause-error : goal.returns-in_err-parsed-clause-error
returns-in_err-parsed-clause-error c =
    let reported = c.in_err-parsed.field-0.0 in
    error_passed_to_result c.from_residual.result reported _ c.from_residual.ensures.1
    (invalid c.args.choice c.args.text.now c.picture_texts.result.0.now None c.picture_texts.result.1 reported c.picture_texts.ensures.first c.picture_texts.ensures.second
    (ap bytes_of c.in_default.is) c.in_err-parsed.ensures.reported)

pub returns-in_default-clause-picture : goal.returns-in_default-clause-picture
returns-in_default-clause-picture c =
    of_texts (λ x y. IsPictureOf c.args.choice c.args.names x y (string_bytes c.in_ok-draw.field-0)) c.args.text.now c.picture_texts.result.0.now None c.picture_texts.result.1
    c.picture_texts.ensures.first c.picture_texts.ensures.second (ap bytes_of c.in_default.is)
    (c.in_ok-parsed.parsed, c.in_ok-parsed.ensures.represents, c.in_ok-draw.ensures)

pub returns-in_err-one-clause-error : goal.returns-in_err-one-clause-error
returns-in_err-one-clause-error c =
    let reported = c.in_err-one.field-0.0 in
    error_passed_to_result c.from_residual-in_err-one.result reported _ c.from_residual-in_err-one.ensures.1
    (invalid c.args.choice c.args.text.now c.picture_texts.result.0.now (Some c.in-Some.second.now) c.picture_texts.result.1 reported
    c.picture_texts.ensures.first c.picture_texts.ensures.second (ap bytes_of c.in-Some.is)
    (first_fails c.args.choice c.picture_texts.result.0.now c.in-Some.second.now reported c.in_err-one.ensures.reported))

pub returns-in_err-other-clause-error : goal.returns-in_err-other-clause-error
returns-in_err-other-clause-error c =
    let reported = c.in_err-other.field-0.0 in
    error_passed_to_result c.from_residual-in_err-other.result reported _ c.from_residual-in_err-other.ensures.1
    (invalid c.args.choice c.args.text.now c.picture_texts.result.0.now (Some c.in-Some.second.now) c.picture_texts.result.1 reported
    c.picture_texts.ensures.first c.picture_texts.ensures.second (ap bytes_of c.in-Some.is)
    (second_fails c.args.choice c.picture_texts.result.0.now c.in-Some.second.now reported
    (c.in_ok-one.one, c.in_ok-one.ensures.represents) c.in_err-other.ensures.reported))

pub returns-clause-picture : goal.returns-clause-picture
returns-clause-picture c =
    of_texts (λ x y. IsPictureOf c.args.choice c.args.names x y (string_bytes c.in_ok-draw_two.field-0)) c.args.text.now c.picture_texts.result.0.now (Some c.in-Some.second.now) c.picture_texts.result.1
    c.picture_texts.ensures.first c.picture_texts.ensures.second (ap bytes_of c.in-Some.is) (
      c.in_ok-one.one,
      c.in_ok-other.other,
      c.in_ok-one.ensures.represents,
      c.in_ok-other.ensures.represents,
      c.in_ok-draw_two.ensures,
    )
