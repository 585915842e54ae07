-- The lines of the lane come in turn.
use Rattle.moc_text.specs.Lines.{lines_of}
use Rattle.moc_script.specs.Crews.{nonblank_lines}
use Rattle.moc_script.proofs.LaneLists.{turns_of_lane}
use Rattle.moc_script.proofs.crews.lines.LaneLines.new.Goals as goal

pub returns-clause-left : goal.returns-clause-left
returns-clause-left c = turns_of_lane c.args.lanes c.args.lane (nonblank_lines (lines_of c.args.input.now)) c.requires
