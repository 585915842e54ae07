-- The answers of one lane, or those of several in turn.
use Rattle.std.proofs.Common.{◌∙◌, List, ℕ, [], Ok, Err, ap, subst, arith}
use Rattle.std.proofs.lemmas.List.{get_or_default}
use Rattle.std.specs.List.{concat}
use Rattle.moc_devices.specs.Lemmas.{AcceptsNone-refl}
use Rattle.moc_devices.specs.declared.device.DeviceFault.{DeviceFault}
use Rattle.moc_lines.specs.declared.run_error.RunError.TheVariants.{Write}
use Rattle.moc_script.specs.Private.Joining.{MergesTo}
use Rattle.moc_script.proofs.Joinings.{single_text_is_merged, joins_ok, merges_error}
use Rattle.moc_script.proofs.crews.merging.write_merged.Goals as goal

pub returns-in-Ok-clause-merges : goal.returns-in-Ok-clause-merges
returns-in-Ok-clause-merges g c =
    joins_ok c.args.answers.now c.args.following.now (g.W.Sink.writing c.args.writer.now) (g.W.Sink.writing c.write_both.new.writer)
    (single_text_is_merged c.args.answers.now c.as_bytes.result.now c.args.following.now _ _ (Ok c.in-Ok.field-0) (omega (arith, c.if-answers-eq1.true)) (c.as_bytes.ensures ∙ ap concat (c.index-answers-0.is ∙ get_or_default c.args.answers.now 0 c.index-answers-0.result [] c.requires.some)) c.in-Ok.ensures.sends)

pub returns-in-Err-clause-merges : goal.returns-in-Err-clause-merges
returns-in-Err-clause-merges g c =
    merges_error c.args.answers.now c.args.following.now (g.W.Sink.writing c.args.writer.now) (g.W.Sink.writing c.write_both.new.writer) c.in-Err.field-0 Write
    (single_text_is_merged c.args.answers.now c.as_bytes.result.now c.args.following.now _ _ (Err c.in-Err.field-0) (omega (arith, c.if-answers-eq1.true)) (c.as_bytes.ensures ∙ ap concat (c.index-answers-0.is ∙ get_or_default c.args.answers.now 0 c.index-answers-0.result [] c.requires.some)) c.in-Err.ensures.sends)

pub returns-in_default-clause-merges : goal.returns-in_default-clause-merges
returns-in_default-clause-merges g c = (AcceptsNone-refl _, c.line_after_last.ensures)

pub returns-in-Ok-write-clause-merges : goal.returns-in-Ok-write-clause-merges
returns-in-Ok-write-clause-merges g c =
    joins_ok c.args.answers.now c.args.following.now (g.W.Sink.writing c.args.writer.now) (g.W.Sink.writing c.write.new.writer)
    (subst (λ (l : List (List (List ℕ))). MergesTo {E = DeviceFault} l c.args.following.now (g.W.Sink.writing c.args.writer.now) (g.W.Sink.writing c.write.new.writer) (Ok c.in-Ok-write.field-0)) c.in-Ok-new.ensures.walks c.in-Ok-write.ensures.sends)

pub returns-in-Err-write-clause-merges : goal.returns-in-Err-write-clause-merges
returns-in-Err-write-clause-merges g c =
    merges_error c.args.answers.now c.args.following.now (g.W.Sink.writing c.args.writer.now) (g.W.Sink.writing c.write.new.writer) c.in-Err-write.field-0 Write
    (subst (λ (l : List (List (List ℕ))). MergesTo {E = DeviceFault} l c.args.following.now (g.W.Sink.writing c.args.writer.now) (g.W.Sink.writing c.write.new.writer) (Err c.in-Err-write.field-0)) c.in-Ok-new.ensures.walks c.in-Err-write.ensures.sends)
