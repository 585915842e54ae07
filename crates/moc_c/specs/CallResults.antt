-- Results as codes and numbers: the table of codes of ploverchaise.h.
use Rattle.std.specs.Prelude.{◌≡◌, ℕ}
use Rattle.moc_ranges.specs.declared.errors.RangesError.{RangesError}
use Rattle.moc_ranges.specs.declared.errors.RangesError.TheVariants as ranges
use Rattle.moc_text.specs.declared.ascii.error.TextError.{TextError}
use Rattle.moc_text.specs.declared.ascii.error.TextError.TheVariants as text
use Rattle.moc_text.specs.declared.json_format.error.JsonError.{JsonError}
use Rattle.moc_text.specs.declared.json_format.error.JsonError.TheVariants as json
use Rattle.moc_text.specs.declared.uniq.UniqError.{UniqError}
use Rattle.moc_text.specs.declared.uniq.UniqError.TheVariants as uniq
use Rattle.moc_forms.specs.declared.format.FormatError.{FormatError}
use Rattle.moc_forms.specs.declared.format.FormatError.TheVariants as format
use Rattle.moc_lines.specs.declared.error.LineError.{LineError}
use Rattle.moc_lines.specs.declared.error.LineError.TheVariants as line
use Rattle.moc_lines.specs.declared.places.LinePlace.{LinePlace}
use Rattle.moc_c.specs.declared.error.CallError.{CallError}
use Rattle.moc_c.specs.declared.error.CallError.TheVariants as error
use Rattle.moc_c.specs.declared.call_result.CallResult.{CallResult}
use Rattle.moc_c.specs.declared.codes.TheConstants as code

-- a code with two numbers
abbrev pub call_result : ℕ → ℕ → ℕ → CallResult
call_result number first second = record { code = number; first = first; second = second }

-- the call succeeded
abbrev pub IsSuccess : CallResult → Type 0
IsSuccess r = r.code ≡ code.OK

-- success with two numbers
abbrev pub numbers_result : ℕ → ℕ → CallResult
numbers_result = call_result code.OK

-- success with a number
abbrev pub number_result : ℕ → CallResult
number_result number = numbers_result number 0

-- success without a value
abbrev pub success : CallResult
success = number_result 0

-- out of memory
abbrev pub memory : CallResult
memory = call_result code.MEMORY 0 0

-- the error of an ASCII text, at a byte
abbrev pub result_of_text : TextError → CallResult
result_of_text text.Memory = memory
result_of_text (text.BadByte at) = call_result code.ASCII_BAD_BYTE at 0
result_of_text (text.NoOrder at) = call_result code.ASCII_NO_ORDER at 0
result_of_text (text.OrderTooLarge at) = call_result code.ASCII_ORDER_TOO_LARGE at 0
result_of_text (text.CellTooLarge at) = call_result code.ASCII_CELL_TOO_LARGE at 0
result_of_text (text.Backwards at) = call_result code.ASCII_BACKWARDS at 0
result_of_text (text.Unfinished at) = call_result code.ASCII_UNFINISHED at 0

-- the error of a JSON text, at a name and an item
abbrev pub result_of_json : JsonError → CallResult
result_of_json json.Memory = memory
result_of_json json.NotJson = call_result code.JSON_NOT_JSON 0 0
result_of_json json.NotObject = call_result code.JSON_NOT_OBJECT 0 0
result_of_json (json.BadOrder name) = call_result code.JSON_BAD_ORDER name 0
result_of_json (json.NotArray name) = call_result code.JSON_NOT_ARRAY name 0
result_of_json (json.NotWhole name place) = call_result code.JSON_NOT_WHOLE name place
result_of_json (json.CellTooLarge name place) = call_result code.JSON_CELL_TOO_LARGE name place

-- the error of a NUNIQ list, at a line
abbrev pub result_of_uniq : UniqError → CallResult
result_of_uniq uniq.Memory = memory
result_of_uniq (uniq.BadByte line) = call_result code.UNIQ_BAD_BYTE line 0
result_of_uniq (uniq.NotUniq line) = call_result code.UNIQ_NOT_UNIQ line 0

-- the error of a text in any format
abbrev pub result_of_format : FormatError → CallResult
result_of_format (format.Ascii e) = result_of_text e
result_of_format (format.Json e) = result_of_json e
result_of_format (format.Uniq e) = result_of_uniq e

-- the error of ranges, at one of them
abbrev pub result_of_ranges : RangesError → CallResult
result_of_ranges ranges.Memory = memory
result_of_ranges (ranges.Backwards at) = call_result code.RANGE_BACKWARDS at 0
result_of_ranges (ranges.PixelTooLarge at) = call_result code.RANGE_PIXEL_TOO_LARGE at 0

-- the code of an invalid coverage in a line
abbrev pub code_of_coverage : TextError → ℕ
code_of_coverage (text.OrderTooLarge at) = code.LINE_ORDER_TOO_LARGE
code_of_coverage (text.CellTooLarge at) = code.LINE_CELL_TOO_LARGE
code_of_coverage (text.BadByte at) = code.LINE_BAD_BYTE
code_of_coverage (text.NoOrder at) = code.LINE_NO_ORDER
code_of_coverage (text.Backwards at) = code.LINE_BACKWARDS
code_of_coverage (text.Unfinished at) = code.LINE_UNFINISHED
code_of_coverage text.Memory = code.MEMORY

-- the code of an error of a line of commands
abbrev pub line_code : LineError → ℕ
line_code line.UnknownWord = code.LINE_UNKNOWN_WORD
line_code line.EmptyCommand = code.LINE_EMPTY_COMMAND
line_code line.TooManyCommands = code.LINE_TOO_MANY_COMMANDS
line_code line.WrongCount = code.LINE_WRONG_COUNT
line_code line.BadNumber = code.LINE_BAD_NUMBER
line_code line.OrderTooLarge = code.LINE_ORDER_TOO_LARGE
line_code line.CellTooLarge = code.LINE_CELL_TOO_LARGE
line_code (line.Coverage e) = code_of_coverage e
line_code line.ClientTooLarge = code.LINE_CLIENT_TOO_LARGE
line_code line.PartTooLarge = code.LINE_PART_TOO_LARGE
line_code line.Memory = code.MEMORY

-- the error of a line of commands, at a command and a byte
abbrev pub result_of_line : LineError → LinePlace → CallResult
result_of_line e place = call_result (line_code e) place.command place.byte

-- any error
abbrev pub result_of : CallError → CallResult
result_of error.Memory = memory
result_of (error.BufferTooShort needed) = call_result code.BUFFER_TOO_SHORT needed 0
result_of (error.NoSuchSet id) = call_result code.NO_SUCH_SET id 0
result_of (error.NoSuchOrder order) = call_result code.NO_SUCH_ORDER order 0
result_of error.LengthsDiffer = call_result code.LENGTHS_DIFFER 0 0
result_of (error.NoSuchCell at) = call_result code.NO_SUCH_CELL at 0
result_of (error.NotUniq at) = call_result code.NOT_UNIQ at 0
result_of (error.Format e) = result_of_format e
result_of error.TooCoarse = call_result code.TOO_COARSE 0 0
result_of (error.Ranges e) = result_of_ranges e
result_of (error.Line e place) = result_of_line e place
result_of error.NoMap = call_result code.NO_MAP 0 0
result_of error.HandleInUse = call_result code.CLIENT_IN_USE 0 0
result_of (error.BadCount clients) = call_result code.BAD_COUNT clients 0
result_of error.NoClient = call_result code.NO_CLIENT 0 0
result_of (error.Busy b) = call_result code.BUSY b.part b.holder
