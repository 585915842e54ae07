-- The positions of errors.
use Rattle.std.specs.Prelude.{ℕ, Option, None, Some}
use Rattle.moc_text.specs.declared.ascii.error.TextError.{TextError}
use Rattle.moc_text.specs.declared.ascii.error.TextError.TheVariants as text
use Rattle.moc_text.specs.declared.json_format.error.JsonError.{JsonError}
use Rattle.moc_text.specs.declared.json_format.error.JsonError.TheVariants as json
use Rattle.moc_text.specs.declared.uniq.UniqError.{UniqError}
use Rattle.moc_text.specs.declared.uniq.UniqError.TheVariants as uniq

-- the byte offset of an error in the ASCII format
abbrev pub error_byte : TextError → Option ℕ
error_byte (text.BadByte at) = Some at
error_byte (text.NoOrder at) = Some at
error_byte (text.OrderTooLarge at) = Some at
error_byte (text.CellTooLarge at) = Some at
error_byte (text.Backwards at) = Some at
error_byte (text.Unfinished at) = Some at
error_byte text.Memory = None

-- the position of an error in the JSON format: the number of a name, and the index of an item if the error is an item
abbrev pub json_error_at : JsonError → Option (ℕ × Option ℕ)
json_error_at json.NotJson = None
json_error_at json.NotObject = None
json_error_at (json.BadOrder name) = Some (name, None)
json_error_at (json.NotArray name) = Some (name, None)
json_error_at (json.NotWhole name item) = Some (name, Some item)
json_error_at (json.CellTooLarge name item) = Some (name, Some item)
json_error_at json.Memory = None

-- the line of an error in a NUNIQ list
abbrev pub error_line : UniqError → Option ℕ
error_line (uniq.BadByte line) = Some line
error_line (uniq.NotUniq line) = Some line
error_line uniq.Memory = None
