-- The numbers by which a page names formats, operations, changes and orders.
use Rattle.std.specs.Prelude.{ℕ, ◌==◌, nat_le, if◌then◌else◌, Option, None, Some, option_map}
use Rattle.moc_sphere.specs.CellNumber.{max_order}
use Rattle.moc_forms.specs.declared.changing.Change.{Change}
use Rattle.moc_forms.specs.declared.changing.Change.TheVariants.{Degrade, Complement}
use Rattle.moc_forms.specs.declared.combining.Operation.{Operation}
use Rattle.moc_forms.specs.declared.combining.Operation.TheVariants.{Union, Intersection, Difference, Symmetric}
use Rattle.moc_forms.specs.declared.finding.FormatChoice.{FormatChoice}
use Rattle.moc_forms.specs.declared.finding.FormatChoice.TheVariants.{Named, Auto}
use Rattle.moc_forms.specs.declared.format.Format.{Format}
use Rattle.moc_forms.specs.declared.format.Format.TheVariants.{Ascii, Json, Uniq}

-- the format with a number: 0 ASCII, 1 JSON, 2 a NUNIQ list
abbrev pub format_with_number : ℕ → Option Format
format_with_number n =
    if n == 0 then Some Ascii else (if n == 1 then Some Json else (if n == 2 then Some Uniq else None))

-- the format to read in with a number: that of a format, or 3 to detect the format
abbrev pub choice_with_number : ℕ → Option FormatChoice
choice_with_number n = if n == 3 then Some Auto else option_map (λ format. Named format) (format_with_number n)

-- the operation with a number: 0 union, 1 intersection, 2 difference, 3 symmetric difference
abbrev pub operation_with_number : ℕ → Option Operation
operation_with_number n =
    if n == 0 then Some Union else (if n == 1 then Some Intersection
    else (if n == 2 then Some Difference else (if n == 3 then Some Symmetric else None)))

-- the order with a number, 0 to 29
abbrev pub order_with_number : ℕ → Option ℕ
order_with_number n = if nat_le n max_order then Some n else None

-- the change with a number: 255 the complement; 0 to 29 to degrade to the order with this number
abbrev pub change_with_number : ℕ → Option Change
change_with_number n =
    if n == 255 then Some Complement else option_map (λ order. Degrade order) (order_with_number n)
