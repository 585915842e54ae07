use Rattle.std.proofs.Common.{◌++◌}
use Rattle.moc_text.proofs.UniqSegments.{error_kept}
use Rattle.moc_text.proofs.uniq.parser.UniqParser.push.Goals as goal

pub returns-clause-parsed : goal.returns-clause-parsed
returns-clause-parsed c = λ text before.
    error_kept (text ++ c.args.bytes.now) c.push_segment-result.new.self _ c.push_segment-result.result c.err-self.result c.err-self.ensures.value (c.push_segment-result.ensures text before)
