-- A line has one piece more than semicolons.
use Rattle.std.proofs.Common.{ap, arith, cond, length, sym}
use Rattle.std.proofs.lemmas.Bool.{lt-ltb, le-ltb}
use Rattle.moc_text.specs.Lines.{pieces_of}
use Rattle.moc_lines.specs.declared.error.LineError.TheVariants.{TooManyCommands}
use Rattle.moc_lines.proofs.Batching.{pieces-counted}
use Rattle.moc_lines.proofs.batch.error_of_line.Goals as goal

pub returns-then-semicolons_in-ge-MAX_COMMANDS : goal.returns-then-semicolons_in-ge-MAX_COMMANDS
returns-then-semicolons_in-ge-MAX_COMMANDS c =
    let pieces = pieces-counted c.args.line.now c.semicolons_in.result c.semicolons_in.ensures in
    sym (ap (λ b. cond b TooManyCommands c.args.error) (lt-ltb 16 (length (pieces_of c.args.line.now)) (omega arith)))

pub returns-else-semicolons_in-ge-MAX_COMMANDS : goal.returns-else-semicolons_in-ge-MAX_COMMANDS
returns-else-semicolons_in-ge-MAX_COMMANDS c =
    let pieces = pieces-counted c.args.line.now c.semicolons_in.result c.semicolons_in.ensures in
    sym (ap (λ b. cond b TooManyCommands c.args.error) (le-ltb 16 (length (pieces_of c.args.line.now)) (omega arith)))
