-- The ways in which a crew ends after all lanes have ended.
use Rattle.std.proofs.Common.{List, ℕ, Ok, Err, Result, subst}
use Rattle.moc_lines.specs.declared.run_error.RunError.{RunError}
use Rattle.moc_script.specs.Private.Joining.{EndsMerging, EndsWriting}
use Rattle.moc_script.proofs.Gathered.{result_passed_on}
use Rattle.moc_script.proofs.Crewing.{crew_not_written, crew_unflushed, crew_done}
use Rattle.moc_script.proofs.crews.write_output.Goals as goal

pub returns-in_err-write_merged-clause-ends : goal.returns-in_err-write_merged-clause-ends
returns-in_err-write_merged-clause-ends g c =
    let output = c.args.crew_output.now in
    let sink = g.W.Sink.writing c.args.writer.now in
    let sink' = g.W.Sink.writing c.write_merged.new.writer in
    let merges : EndsMerging c.args.input.now output.answers.items output.cover.items sink sink' (Err c.in_err-write_merged.field-0.0) =
    subst (λ (l : List (List (List ℕ))). EndsMerging c.args.input.now l output.cover.items sink sink' (Err c.in_err-write_merged.field-0.0)) c.deref.ensures.value
    (subst (λ (l : List ℕ). EndsMerging c.args.input.now c.deref.result.now l sink sink' (Err c.in_err-write_merged.field-0.0)) c.deref-2.ensures.value c.in_err-write_merged.ensures.merges) in
    result_passed_on c.from_residual.result c.in_err-write_merged.field-0.0 (EndsWriting c.args.input.now output.answers.items output.cover.items sink sink') c.from_residual.ensures.1
    (crew_not_written c.args.input.now output.cover.items output.answers.items sink sink' c.in_err-write_merged.field-0.0 merges)

pub returns-then-is_err-clause-ends : goal.returns-then-is_err-clause-ends
returns-then-is_err-clause-ends g c =
    let output = c.args.crew_output.now in
    let sink = g.W.Sink.writing c.args.writer.now in
    let sink' = g.W.Sink.writing c.write_merged.new.writer in
    let merges : EndsMerging c.args.input.now output.answers.items output.cover.items sink sink' (Ok tt) =
    subst (λ (l : List (List (List ℕ))). EndsMerging c.args.input.now l output.cover.items sink sink' (Ok tt)) c.deref.ensures.value
    (subst (λ (l : List ℕ). EndsMerging c.args.input.now c.deref.result.now l sink sink' (Ok tt)) c.deref-2.ensures.value c.in_ok-write_merged.ensures.merges) in
    λ lanes source source' answered reads. crew_unflushed lanes c.args.input.now output.cover.items output.answers.items answered source' sink sink' (g.W.Sink.writing c.flush.new.self) reads.1 source
    reads.0 merges c.flush.ensures.bytes

pub returns-clause-ends : goal.returns-clause-ends
returns-clause-ends g c =
    let output = c.args.crew_output.now in
    let sink = g.W.Sink.writing c.args.writer.now in
    let sink' = g.W.Sink.writing c.write_merged.new.writer in
    let merges : EndsMerging c.args.input.now output.answers.items output.cover.items sink sink' (Ok tt) =
    subst (λ (l : List (List (List ℕ))). EndsMerging c.args.input.now l output.cover.items sink sink' (Ok tt)) c.deref.ensures.value
    (subst (λ (l : List ℕ). EndsMerging c.args.input.now c.deref.result.now l sink sink' (Ok tt)) c.deref-2.ensures.value c.in_ok-write_merged.ensures.merges) in
    λ lanes source source' answered reads. crew_done lanes c.args.input.now output.cover.items output.answers.items answered source' sink sink' (g.W.Sink.writing c.flush.new.self) reads.1 source
    reads.0 reads.2 merges c.flush.ensures.bytes
