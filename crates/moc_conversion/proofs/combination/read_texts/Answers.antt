use Rattle.std.proofs.Common.{arith, rules, ◌≡◌, ◌<◌, ◌⊎◌, ◌∙◌, inl, inr, List, ℕ, None, false, true, length, refl, subst}
use Rattle.std.proofs.lemmas.Grind.{common_steps}
use Rattle.std.proofs.lemmas.Result.{IfErr-weaker, IfOk-weaker}
use Rattle.moc_conversion.specs.Private.Running.{AreRejected, FailsWithin, Processes}
use Rattle.moc_conversion.proofs.Checks.{error_passed_to_result}
use Rattle.moc_conversion.proofs.Combinations.{all_fails, all_combined, all_noted, piece_fails, piece_is, piece_processed}
use Rattle.moc_conversion.proofs.combination.read_texts.Goals as goal

pub loop-piece-preserved : goal.loop-piece-preserved
loop-piece-preserved g c = record {
  unmarked = search rules;
  buffer = grind (arith, common_steps);
  opened = c.in_ok-push_bytes.ensures.open;
  processed =
      let brings = c.in_ok-read_chunk.ensures.reads_more in
      let yes : c.in_ok-read_chunk.field-0 ≡ true = search rules in
      let before : length c.clear.new.self.items < length c.read_chunk.new.text.items = brings.more yes in
      let some : 0 < length c.read_chunk.new.text.items = omega (arith, before) in
      piece_processed _ _ _ _ _ _ c.read_chunk.new.text.items _
      (piece_is _ _ _ _ _ c.clear.ensures.items brings)
      (subst (λ (bytes : List ℕ). Processes c.loop-piece.texts bytes c.push_bytes.new.self) c.deref.ensures.value c.in_ok-push_bytes.ensures.processes)
      some c.loop-piece.invariant.processed;
}

pub returns-then-not-branch-clause-represents : goal.returns-then-not-branch-clause-represents
returns-then-not-branch-clause-represents g c =
    let brings = c.in_ok-read_chunk.ensures.reads_more in
    let no : c.in_ok-read_chunk.field-0 ≡ false = search rules in
    let none = brings.none no in
    IfOk-weaker c.finish_with_notes.result _ _ (λ r ends.
    all_combined c.args.operation c.args.choice _ _ _ _ _ _ c.new-texts.ensures.begins c.loop-piece.invariant.processed.0
    (piece_is _ _ _ _ _ c.clear.ensures.items brings) (none.0 ∙ c.clear.ensures.items) none.1 r.0 ends)
    c.finish_with_notes.ensures.represents

pub returns-then-not-branch-clause-notes : goal.returns-then-not-branch-clause-notes
returns-then-not-branch-clause-notes g c =
    let brings = c.in_ok-read_chunk.ensures.reads_more in
    let no : c.in_ok-read_chunk.field-0 ≡ false = search rules in
    let none = brings.none no in
    IfOk-weaker c.finish_with_notes.result _ _ (λ r are.
    all_noted c.args.operation c.args.choice _ _ _ _ _ _ c.new-texts.ensures.begins c.loop-piece.invariant.processed.0
    (piece_is _ _ _ _ _ c.clear.ensures.items brings) (none.0 ∙ c.clear.ensures.items) none.1 r.1 are)
    c.finish_with_notes.ensures.notes

pub returns-then-not-branch-clause-error : goal.returns-then-not-branch-clause-error
returns-then-not-branch-clause-error g c =
    let brings = c.in_ok-read_chunk.ensures.reads_more in
    let no : c.in_ok-read_chunk.field-0 ≡ false = search rules in
    let none = brings.none no in
    IfErr-weaker c.finish_with_notes.result _ _ (λ e reported.
    all_fails c.args.operation c.args.choice _ _ _ _ _ _ c.new-texts.ensures.begins c.loop-piece.invariant.processed.0
    (piece_is _ _ _ _ _ c.clear.ensures.items brings) (none.0 ∙ c.clear.ensures.items) none.1 e reported)
    c.finish_with_notes.ensures.error

pub returns-in_err-push_bytes-clause-error : goal.returns-in_err-push_bytes-clause-error
returns-in_err-push_bytes-clause-error g c =
    let reported = c.in_err-push_bytes.field-0.0 in
    error_passed_to_result c.from_residual-in_err-push_bytes.result reported _ c.from_residual-in_err-push_bytes.ensures.1
    (piece_fails c.args.operation c.args.choice _ _ _ _ _ _ c.new-texts.ensures.begins c.loop-piece.invariant.processed.0
    (piece_is _ _ _ _ _ c.clear.ensures.items c.in_ok-read_chunk.ensures.reads_more) reported
    (subst (λ (bytes : List ℕ). AreRejected c.loop-piece.texts bytes reported ⊎ FailsWithin c.loop-piece.texts bytes reported) c.deref.ensures.value c.in_err-push_bytes.ensures.error))

pub returns-clause-error : goal.returns-clause-error
returns-clause-error g c =
    let runs = c.loop-piece.invariant.processed in
    inl (inr (inr (runs.0.0, runs.0.1.0, inr (None, refl, omega (arith, runs.1, c.loop-piece-test.false)))))
