-- The calls of the lines of a lane, and their answers.
use Rattle.std.specs.Prelude.{◌≡◌, ◌⊎◌, ℕ, List, [], ◌∷◌}
use Rattle.moc_lines.specs.Runs.{Rules}
use Rattle.moc_shared.specs.declared.record.Call.{Call}

module _ {S O R : Type 0} (object : S → O → S × R) (rules : Rules S) where
  -- on each set the line has this answer and leaves the set unchanged: an invalid line
  abbrev pub ChangesNothing : List ℕ → List ℕ → Type 0
  ChangesNothing line text = (s : S) → (rules.answer s line ≡ text) × (rules.after s line ≡ s)

  -- on each set the line has the effect of the call, and if the call has this reply, the line has this answer
  abbrev pub IsRequestedBy : List ℕ → Call O R → List ℕ → Type 0
  IsRequestedBy line e text =
      (s : S) → (rules.after s line ≡ (object s e.operation).0)
      × (e.reply ≡ (object s e.operation).1 → rules.answer s line ≡ text)

  -- the line made these calls, one or none, and has this answer
  abbrev pub MadeByLine : List ℕ → List (Call O R) → List ℕ → Type 0
  MadeByLine line calls text =
      ((calls ≡ []) × ChangesNothing line text) ⊎ ((e : Call O R) × (calls ≡ e ∷ []) × IsRequestedBy line e text)

  -- the lines, in order, made these calls and have these answers
  abbrev pub Performs : List (List ℕ) → List (Call O R) → List (List ℕ) → Type 0
  Performs [] calls texts = (calls ≡ []) × (texts ≡ [])
  Performs (line ∷ lines) calls texts =
      (text : List ℕ) × (rest : List (List ℕ)) × (texts ≡ text ∷ rest)
      × ((ChangesNothing line text × Performs lines calls rest)
      ⊎ ((e : Call O R) × (later : List (Call O R)) × (calls ≡ e ∷ later)
      × IsRequestedBy line e text × Performs lines later rest))
