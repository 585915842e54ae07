use Rattle.std.proofs.Common.{◌∙◌}
use Rattle.moc_text.proofs.JsonRuns.{number_more}
use Rattle.moc_text.proofs.json_format.writing.write_run.Goals as goal

pub loop-index-preserved : goal.loop-index-preserved
loop-index-preserved c = λ k rest.
    number_more k c.loop-index.index c.args.end rest c.loop-index.text c.push_number.new.self c.loop-index-test.true c.in_ok-push_number.ensures ∙ c.loop-index.invariant k rest
