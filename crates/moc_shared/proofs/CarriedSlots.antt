-- The slots of a seat.
use Rattle.std.proofs.Common.{◌≡◌, ℕ, List, [], ◌∷◌, map, refl}
use Rattle.atomic_table.specs.Table.{rest}
use Rattle.moc_shared.specs.declared.record.Note.{Note}
use Rattle.moc_shared.specs.Seats.{table_index}
use Rattle.moc_shared.specs.Private.Invariant.{parts_of_notes}
use Rattle.moc_shared.specs.Private.StepEffects.{rest_of_list}

pub first_entry_of_keys : {S : Type 0} (cs : List (ℕ × S)) (b : ℕ) (ps : List ℕ) → map (λ c. c.0) cs ≡ b ∷ ps → (x : S)
    × (cs ≡ (b, x) ∷ rest cs)
first_entry_of_keys [] b ps e = absurd (cc)
first_entry_of_keys ((k, x) ∷ cs) b ps e = let h : k ≡ b = cc in (x, λ i. (h i, x) ∷ cs)

pub rest_of_keys : {S Y : Type 0} (cs : List (ℕ × S)) (notes : List (Note Y)) → map (λ c. c.0) cs ≡ map table_index (parts_of_notes notes)
    → map (λ c. c.0) (rest cs) ≡ map table_index (parts_of_notes (rest_of_list notes))
rest_of_keys [] [] e = refl
rest_of_keys [] (t ∷ ts) e = absurd (cc)
rest_of_keys (c ∷ cs) [] e = absurd (cc)
rest_of_keys (c ∷ cs) (t ∷ ts) e = cc

pub rest_parts : {S : Type 0} (cs : List (ℕ × S)) (b : ℕ) (ps : List ℕ) → map (λ c. c.0) cs ≡ b ∷ ps
    → map (λ c. c.0) (rest cs) ≡ ps
rest_parts [] b ps e = absurd (cc)
rest_parts (c ∷ cs) b ps e = cc

pub no_entries_of_no_keys : {S : Type 0} (cs : List (ℕ × S)) → map (λ c. c.0) cs ≡ [] → cs ≡ []
no_entries_of_no_keys [] e = refl
no_entries_of_no_keys (c ∷ cs) e = absurd (cc)
