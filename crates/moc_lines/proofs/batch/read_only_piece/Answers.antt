-- A line without a semicolon is one piece.
use Rattle.moc_lines.specs.Language.{command_of}
use Rattle.moc_lines.proofs.Batching.{reads-alone}
use Rattle.moc_lines.proofs.batch.read_only_piece.Goals as goal

pub returns : goal.returns
returns c = reads-alone command_of c.args.line.now c.read_piece.result c.requires c.read_piece.ensures
