-- The number, then the end of the line.
use Rattle.std.proofs.Common.{ℕ, List, ◌++◌, codes, decimal, refl}
use Rattle.moc_conversion.proofs.Sending.{writes_all, writes_first, writes_next}
use Rattle.moc_conversion.proofs.notes.write_without_cells.Goals as goal

-- the line up to its number
abbrev number_text : ℕ → List ℕ
number_text number = codes "note: text " ++ decimal number

pub returns-in_err-write_number : goal.returns-in_err-write_number
returns-in_err-write_number g c =
    writes_first _ _ (number_text c.args.number) (codes " has no cells\n") _ _ _ _ c.in_err-write_number.ensures refl c.from_residual.ensures.0

pub returns : goal.returns
returns g c =
    writes_next _ _ (number_text c.args.number) (codes " has no cells\n") _ _ _ _ _ c.in_ok-write_number.ensures
    (writes_all _ _ _ _ _ _ _ c.write_all.result c.write_all.ensures.written c.write_all.ensures.sends c.write_all.ensures.writes)
