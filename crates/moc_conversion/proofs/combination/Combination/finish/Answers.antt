use Rattle.std.proofs.Common.{◌≡◌, ◌∙◌, ap, arith, false, inl, inr, None, Some, sym, true}
use Rattle.std.proofs.lemmas.Grind.{common_steps}
use Rattle.std.proofs.lemmas.Result.{IfErr-weaker, IfOk-weaker}
use Rattle.moc_forms.specs.Combining.{are_blanks}
use Rattle.moc_conversion.proofs.Combinations.{blanks_are_ignored, last_fails, last_valid}
use Rattle.moc_conversion.proofs.combination.Combination.finish.Goals as goal

pub returns-in_default-clause-error : goal.returns-in_default-clause-error
returns-in_default-clause-error c =
    let bare : c.args.self.now.before ≡ None = grind (arith, common_steps) in
    IfErr-weaker c.combine.result _ _ (λ e reported. last_fails c.args.self.now e c.requires (inl bare) reported) c.combine.ensures.reported

pub returns-in_default-clause-represents : goal.returns-in_default-clause-represents
returns-in_default-clause-represents c =
    let bare : c.args.self.now.before ≡ None = grind (arith, common_steps) in
    IfOk-weaker c.combine.result _ _ (λ after more. last_valid c.args.self.now None after (sym bare) c.requires (inl bare) more) c.combine.ensures.represents

pub returns-then-is_blank-clause-represents : goal.returns-then-is_blank-clause-represents
returns-then-is_blank-clause-represents c =
    let before : c.args.self.now.before ≡ Some c.in-Some.before = sym c.take.ensures.value ∙ c.in-Some.is in
    let blank : are_blanks c.args.self.now.text.items ≡ true = ap are_blanks (sym c.deref.ensures.value) ∙ sym c.is_blank.ensures ∙ c.if-is_blank.true in
    blanks_are_ignored c.args.self.now c.in-Some.before c.requires before blank

pub returns-clause-error : goal.returns-clause-error
returns-clause-error c =
    let written : are_blanks c.args.self.now.text.items ≡ false = ap are_blanks (sym c.deref.ensures.value) ∙ sym c.is_blank.ensures ∙ c.if-is_blank.false in
    IfErr-weaker c.combine-2.result _ _ (λ e reported. last_fails c.args.self.now e c.requires (inr written) reported) c.combine-2.ensures.reported

pub returns-clause-represents : goal.returns-clause-represents
returns-clause-represents c =
    let written : are_blanks c.args.self.now.text.items ≡ false = ap are_blanks (sym c.deref.ensures.value) ∙ sym c.is_blank.ensures ∙ c.if-is_blank.false in
    let before : Some c.in-Some.before ≡ c.args.self.now.before = sym c.in-Some.is ∙ c.take.ensures.value in
    IfOk-weaker c.combine-2.result _ _ (λ after more. last_valid c.args.self.now (Some c.in-Some.before) after before c.requires (inr written) more) c.combine-2.ensures.represents
