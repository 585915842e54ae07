use Rattle.moc_text.proofs.UniqLines.{lines_start, lines_more}
use Rattle.moc_text.proofs.uniq.read_lines.Goals as goal

pub loop-rest-init : goal.loop-rest-init
loop-rest-init c = lines_start c.args.first c.args.bytes.now c.args.cells.now

pub loop-rest-preserved : goal.loop-rest-preserved
loop-rest-preserved c = lines_more c.args.first c.loop-rest.line _ c.args.bytes.now c.loop-rest.rest.now c.in_ok-rest.rest.now c.args.cells.now c.loop-rest.cells c.read_line.new.cells c.loop-rest.invariant c.in_ok-rest.ensures.read
