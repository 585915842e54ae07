use Rattle.std.proofs.Common.{◌≡◌, ◌⊎◌, ◌∙◌, ◌∷◌, ◌++◌, inl, ℕ, List, [], ap, append_assoc, append-nil, subst, sym}
use Rattle.std.proofs.lemmas.Result.{IfErr-weaker, on_ok_weaker}
use Rattle.moc_conversion.specs.Private.Pieces.{semicolon}
use Rattle.moc_conversion.specs.Private.Running.{AreRejected, FailsWithin, Processes}
use Rattle.moc_conversion.proofs.Checks.{error_passed_to_result}
use Rattle.moc_conversion.proofs.Combinations.{fails_later, processes_both, rejected_later}
use Rattle.moc_conversion.proofs.combination.Combination.push_bytes.Goals as goal

pub loop-part-preserved : goal.loop-part-preserved
loop-part-preserved c =
    let processed = c.loop-part.invariant.1.0 in
    let part = c.in-Some.part.now in
    let following = c.in-Some.following.now in (
      c.in_ok-finish_text.ensures.open,
      (
        (processed ++ part) ++ semicolon,
        c.loop-part.invariant.1.1 ∙ ap (λ rest. processed ++ rest) c.in-Some.ensures.1
            ∙ sym (append_assoc processed part (59 ∷ following)) ∙ sym (append_assoc (processed ++ part) semicolon following),
        processes_both _ _ _ _ _ (processes_both _ _ _ _ _ c.loop-part.invariant.1.2 c.in_ok-extend.ensures.processes) c.in_ok-finish_text.ensures.processes,
      ),
    )

pub returns-in_err-extend-clause-error : goal.returns-in_err-extend-clause-error
returns-in_err-extend-clause-error c =
    let processed = c.loop-part.invariant.1.0 in
    let part = c.in-Some.part.now in
    let following = c.in-Some.following.now in
    let reported = c.in_err-extend.field-0.0 in
    let all : c.args.bytes.now ≡ processed ++ (part ++ 59 ∷ following) = c.loop-part.invariant.1.1 ∙ ap (λ rest. processed ++ rest) c.in-Some.ensures.1 in
    error_passed_to_result c.from_residual.result reported _ c.from_residual.ensures.1
    (inl (subst (λ (bytes : List ℕ). AreRejected c.args.self.now bytes reported) (sym all)
    (rejected_later c.args.self.now _ processed part (59 ∷ following) reported c.loop-part.invariant.1.2 c.in_err-extend.ensures.error)))

pub returns-in_err-finish_text-clause-error : goal.returns-in_err-finish_text-clause-error
returns-in_err-finish_text-clause-error c =
    let processed = c.loop-part.invariant.1.0 in
    let part = c.in-Some.part.now in
    let following = c.in-Some.following.now in
    let reported = c.in_err-finish_text.field-0.0 in
    let all : c.args.bytes.now ≡ (processed ++ part) ++ (semicolon ++ following) =
    c.loop-part.invariant.1.1 ∙ ap (λ rest. processed ++ rest) c.in-Some.ensures.1 ∙ sym (append_assoc processed part (59 ∷ following)) in
    error_passed_to_result c.from_residual-in_err-finish_text.result reported _ c.from_residual-in_err-finish_text.ensures.1
    (subst (λ (bytes : List ℕ). AreRejected c.args.self.now bytes reported ⊎ FailsWithin c.args.self.now bytes reported) (sym all)
    (fails_later c.args.self.now _ (processed ++ part) semicolon following reported (processes_both _ _ _ _ _ c.loop-part.invariant.1.2 c.in_ok-extend.ensures.processes)
    c.in_err-finish_text.ensures.error))

pub returns-clause-error : goal.returns-clause-error
returns-clause-error c =
    let processed = c.loop-part.invariant.1.0 in
    let rest = c.loop-part.rest.now in
    let all : processed ++ (rest ++ []) ≡ c.args.bytes.now = ap (λ more. processed ++ more) (append-nil rest) ∙ sym c.loop-part.invariant.1.1 in
    IfErr-weaker c.extend-2.result _ _ (λ e not.
    inl (subst (λ (bytes : List ℕ). AreRejected c.args.self.now bytes e) all
    (rejected_later c.args.self.now _ processed rest [] e c.loop-part.invariant.1.2 not)))
    c.extend-2.ensures.error

pub returns-clause-processes : goal.returns-clause-processes
returns-clause-processes c =
    on_ok_weaker c.extend-2.result (λ processes. subst (λ (bytes : List ℕ). Processes c.args.self.now bytes c.extend-2.new.self) (sym c.loop-part.invariant.1.1)
    (processes_both _ _ _ _ _ c.loop-part.invariant.1.2 processes)) c.extend-2.ensures.processes
