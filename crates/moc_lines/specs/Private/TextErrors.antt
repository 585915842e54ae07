-- The error of a command for a text that is not a coverage.
use Rattle.moc_text.specs.declared.ascii.error.TextError.{TextError}
use Rattle.moc_text.specs.declared.ascii.error.TextError.TheVariants as text
use Rattle.moc_lines.specs.declared.error.LineError.{LineError}
use Rattle.moc_lines.specs.declared.error.LineError.TheVariants.{Coverage, Memory}

-- the error of a line with this error of an operand's coverage; an allocation failure stays one
abbrev pub error_of_text : TextError → LineError
error_of_text text.Memory = Memory
error_of_text error = Coverage error
