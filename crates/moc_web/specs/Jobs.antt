-- The outputs of jobs.
use Rattle.std.specs.Prelude.{◌≡◌, ◌≢◌, ◌⊎◌, ◌*◌, ◌/◌, ◌^◌, ℕ, List, [], ◌∷◌, ◌++◌, codes, decimal, nat_lt}
use Rattle.std.specs.Prelude.{Option, None, Some, Err, if◌then◌else◌, option_and_then}
use Rattle.std.specs.FinSet as set
use Rattle.moc_sphere.specs.CellNumber.{CellNumber, cell_count, cell_number, cell_size}
use Rattle.moc_sphere.specs.Rings.{ring_number}
use Rattle.moc_ranges.specs.Cells.{span}
use Rattle.moc_text.specs.Names.{fault_report}
use Rattle.moc_devices.specs.Devices.{SinkState, SourceState}
use Rattle.moc_forms.specs.Describing.{Describes, decimal_fraction}
use Rattle.moc_forms.specs.Drawing.{picture_of}
use Rattle.moc_forms.specs.declared.combining.ParsedCoverage.{ParsedCoverage}
use Rattle.moc_forms.specs.declared.finding.FormatChoice.{FormatChoice}
use Rattle.moc_conversion.specs.Conversion.{IsPictureOf, ReportsFirstOfTexts, second_text}
use Rattle.moc_conversion.specs.declared.error.InputError.{InputError}
use Rattle.moc_conversion.specs.declared.error.InputError.TheVariants as input
use Rattle.moc_text.specs.Lines.{is_semicolon}
use Rattle.std.specs.List.{before_first}
use Rattle.moc_lists.specs.RangeList.{NumberSet}
use Rattle.moc_lines.specs.Runs.{Runs, answers_of, line_limit, name_of_run_error, script_rules}
use Rattle.moc_lines.specs.declared.run_error.RunError.{RunError}
use Rattle.moc_lines.specs.declared.run_error.RunError.TheVariants.{Read, Write}
use Rattle.moc_web.specs.Numbers.{order_with_number}
use Rattle.moc_web.specs.Results.{Fills, Reports, done}
use Rattle.moc_web.specs.declared.job_result.JobResult.{JobResult}

-- the text has the statistics of a coverage, and then its picture without a name
abbrev pub Examines : ParsedCoverage → List ℕ → Type 0
Examines parsed text =
    (statistics : List ℕ) × Describes parsed.set parsed.moc_order statistics
    × (text ≡ statistics ++ picture_of parsed.set None)

-- the text is the picture, without names, of the one or two texts of bytes
abbrev pub Draws : FormatChoice → List ℕ → List ℕ → Type 0
Draws choice bytes text =
    IsPictureOf choice (record { first = None; second = None })
    (before_first is_semicolon bytes) (second_text bytes) text

-- why the texts of a picture were not drawn: an allocation failed, or this is the first error of the first invalid text
abbrev pub FailsDrawing : FormatChoice → List ℕ → InputError → Type 0
FailsDrawing choice bytes e =
    (e ≡ input.Memory) ⊎ ReportsFirstOfTexts choice (before_first is_semicolon bytes) (second_text bytes) e

-- the cell with this order and this index, if it exists
abbrev pub cell_with_numbers : ℕ → ℕ → Option CellNumber
cell_with_numbers order index =
    option_and_then (λ k. if nat_lt index (cell_count k) then Some (cell_number k index) else None)
    (order_with_number order)

-- a word and a number, as a line
abbrev pub number_line : List ℕ → List ℕ → List ℕ
number_line word number = word ++ number ++ 10 ∷ []

-- the share of a cell of an order that a number of its pixels is, in parts of 10^12, rounded down
abbrev pub share_of_cell : ℕ → ℕ → ℕ
share_of_cell order count = count * 10 ^ 12 / cell_size order

-- the number of the pixels of a cell in a set
abbrev pub pixels_in : NumberSet → CellNumber → ℕ
pixels_in a cell = set.len (set.intersection a (span cell.order cell.index))

-- the lines of the ring number of a cell, of a number of its pixels, and of their share of the cell
abbrev pub cell_lines : CellNumber → ℕ → List ℕ
cell_lines cell count =
    number_line (codes "ring ") (decimal (ring_number cell.order cell.index))
    ++ number_line (codes "pixels ") (decimal count)
    ++ number_line (codes "share ") (decimal_fraction 12 (share_of_cell cell.order count))

-- the text has the lines of a cell for the number of its pixels in a coverage
abbrev pub Measures : CellNumber → ParsedCoverage → List ℕ → Type 0
Measures cell parsed text = text ≡ cell_lines cell (pixels_in parsed.set cell)

-- a run of a script ends with this error; reading a script in memory does not fail
abbrev pub FailsRunning : List ℕ → RunError → Type 0
FailsRunning script error =
    (error ≢ Read)
    × ((reading reading' : SourceState) × (writing writing' : SinkState) × (reading.left ≡ Some script)
    × Runs line_limit script_rules set.empty reading reading' writing writing' (Err error))

-- the name by which the error of a script is reported: a write into memory fails only if an allocation fails
abbrev pub name_of_script_error : RunError → List ℕ
name_of_script_error Write = codes "Memory"
name_of_script_error error = name_of_run_error error

-- the output has the replies to a script, or the report of the error that ended it
abbrev pub RunsScript : List ℕ → List ℕ → List ℕ → JobResult → Type 0
RunsScript script old new result =
    Fills done (answers_of script) old new result
    ⊎ ((error : RunError) × FailsRunning script error
    × Reports (fault_report (name_of_script_error error)) old new result)
