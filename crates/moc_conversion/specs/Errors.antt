-- Errors of an input: their names, and the text that reports them.
use Rattle.std.specs.Prelude.{◌≡◌, ℕ, Bool, false, List, [], ◌++◌, Option, None, option_map, string_bytes, codes}
use Rattle.std.specs.Prelude.{Result, OnOk, is_err}
use Rattle.std.specs.Option.{option_map_or}
use Rattle.moc_devices.specs.Devices.{SinkState, Accepts, Sends}
use Rattle.moc_text.specs.Names.{fault_report}
use Rattle.moc_forms.specs.Expectations.{expected_text}
use Rattle.moc_forms.specs.Finding.{hint_text}
use Rattle.moc_forms.specs.Formats.{name_of_format_error}
use Rattle.moc_forms.specs.Places.{position_line}
use Rattle.moc_forms.specs.declared.diagnostic.Diagnostic.{Diagnostic}
use Rattle.moc_conversion.specs.declared.error.InputError.{InputError}
use Rattle.moc_conversion.specs.declared.error.InputError.TheVariants.{Text, ConvertedText, TooLong, Read, Memory}

-- the name of an error
abbrev pub name_of_input : InputError → List ℕ
name_of_input (Text number diagnostic) = name_of_format_error diagnostic.error
name_of_input (ConvertedText error) = name_of_format_error error
name_of_input (TooLong number) = codes "TooLong"
name_of_input Read = codes "Read"
name_of_input Memory = codes "Memory"

-- the lines of a diagnostic: those of its position, with the number of the text if texts are counted, of what the text
-- must have there, and of its hint
abbrev pub diagnostic_text : Option ℕ → Diagnostic → List ℕ
diagnostic_text number d =
    position_line number d.place (option_map string_bytes d.quote)
    ++ (expected_text d.error d.order ++ option_map_or hint_text d.hint [])

-- the lines after the name of an error, if there are any
abbrev pub position_text : InputError → List ℕ
position_text (Text number diagnostic) = diagnostic_text number diagnostic
position_text (ConvertedText error) = []
position_text (TooLong number) = position_line number None None
position_text Read = []
position_text Memory = []

-- the text that reports an error: the line of its name, then the other lines, if there are any
abbrev pub input_error_text : InputError → List ℕ
input_error_text e = fault_report (name_of_input e) ++ position_text e

-- The text was written, or a prefix of it if the call failed. If no call of the sink had failed before, one has failed
-- now exactly if the result is an error.
pub record WritesText {S E : Type 0} (writing : S → SinkState) (mark : S → Bool) (text : List ℕ) (old new : S)
    (result : Result (Unit {0}) E) : Type 0 where
  pub written : OnOk result (Accepts (writing old) (writing new) text)
  pub sends : Sends text (writing old) [] (writing new) result
  pub marks : mark old ≡ false → mark new ≡ is_err result
