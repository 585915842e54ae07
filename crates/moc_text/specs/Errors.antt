-- The errors of a parser.
use Rattle.std.specs.Prelude.{◌≡◌, Option, Some, ◌⊎◌}

-- the error is an allocation failure, or the first error of the text
abbrev pub Fails : {E : Type 0} → E → Option E → E → Type 0
Fails memory first e = (e ≡ memory) ⊎ (first ≡ Some e)
