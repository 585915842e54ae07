-- The printed names of errors.
use Rattle.std.specs.Prelude.{ℕ, List, [], ◌∷◌, ◌++◌, codes}
use Rattle.moc_text.specs.declared.ascii.error.TextError.{TextError}
use Rattle.moc_text.specs.declared.ascii.error.TextError.TheVariants as text
use Rattle.moc_text.specs.declared.json_format.error.JsonError.{JsonError}
use Rattle.moc_text.specs.declared.json_format.error.JsonError.TheVariants as json
use Rattle.moc_text.specs.declared.uniq.UniqError.{UniqError}
use Rattle.moc_text.specs.declared.uniq.UniqError.TheVariants as uniq
use Rattle.moc_text.specs.declared.write_error.WriteError.{WriteError}
use Rattle.moc_text.specs.declared.write_error.WriteError.TheVariants as write

-- the printed name of an error in the ASCII format
abbrev pub name_of_text : TextError → List ℕ
name_of_text (text.BadByte at) = codes "BadByte"
name_of_text (text.NoOrder at) = codes "NoOrder"
name_of_text (text.OrderTooLarge at) = codes "OrderTooLarge"
name_of_text (text.CellTooLarge at) = codes "CellTooLarge"
name_of_text (text.Backwards at) = codes "Backwards"
name_of_text (text.Unfinished at) = codes "Unfinished"
name_of_text text.Memory = codes "Memory"

-- the printed name of an error in the JSON format
abbrev pub name_of_json : JsonError → List ℕ
name_of_json json.NotJson = codes "NotJson"
name_of_json json.NotObject = codes "NotObject"
name_of_json (json.BadOrder name) = codes "BadOrder"
name_of_json (json.NotArray name) = codes "NotArray"
name_of_json (json.NotWhole name place) = codes "NotWhole"
name_of_json (json.CellTooLarge name place) = codes "CellTooLarge"
name_of_json json.Memory = codes "Memory"

-- the printed name of an error in a NUNIQ list
abbrev pub name_of_uniq : UniqError → List ℕ
name_of_uniq (uniq.BadByte line) = codes "BadByte"
name_of_uniq (uniq.NotUniq line) = codes "NotUniq"
name_of_uniq uniq.Memory = codes "Memory"

-- the printed name of an error of writing
abbrev pub name_of_write_error : WriteError → List ℕ
name_of_write_error write.TooCoarse = codes "TooCoarse"
name_of_write_error write.Memory = codes "Memory"

-- the line that reports an error with this name
abbrev pub fault_report : List ℕ → List ℕ
fault_report name = codes "fault " ++ name ++ 10 ∷ []
