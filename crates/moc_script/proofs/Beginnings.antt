-- The lines that began the operations of an order.
use Rattle.std.proofs.Common.{◌≡◌, ℕ, List, [], ◌∷◌, ◌++◌, codes, decimal, get_or, refl, ap}
use Rattle.std.specs.List.{flat_map}
use Rattle.moc_steps.specs.Played.{entries_of}
use Rattle.moc_steps.specs.declared.step.Entry.{Entry}
use Rattle.moc_script.specs.Schedules.{begin_lines}

-- the text of an entry
abbrev pub begin_of_entry : List ℕ → Entry → List ℕ
begin_of_entry begins entry = codes " " ++ decimal (get_or begins entry.begin 0)

pub begin_lines_are : (begins : List ℕ) (order : List Entry) → begin_lines begins (entries_of order) ≡ flat_map (begin_of_entry begins) order
begin_lines_are begins [] = refl
begin_lines_are begins (entry ∷ order) = ap (λ l. begin_of_entry begins entry ++ l) (begin_lines_are begins order)
