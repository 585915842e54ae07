-- The effect of an operation, computed from the contents of its parts.
use Rattle.std.specs.Prelude.{◌≡◌, ℕ, List, Contains}
use Rattle.moc_shared.specs.declared.record.Note.{Note}
use Rattle.moc_shared.specs.Seats.{note}
use Rattle.moc_shared.specs.Private.Invariant.{parts_of_notes}

module _ {X O R Y : Type 0} (part : ℕ → X → Y) (answer : X → O → X × R) (valid : X → Type 0) where
  -- On each set that agrees with the taken contents, the operation has this reply, the parts get the new contents, and
  -- no other part changes.
  abbrev pub HasEffect : O → R → List (Note Y) → List (Note Y) → Type 0
  HasEffect op reply previous edited =
      (set : X) → valid set → ((b : ℕ) (y : Y) → Contains previous (note b y) → y ≡ part b set)
      → ((answer set op).1 ≡ reply)
      × ((b : ℕ) (y : Y) → Contains edited (note b y) → y ≡ part b (answer set op).0)
      × ((b : ℕ) → ¬ Contains (parts_of_notes previous) b → part b (answer set op).0 ≡ part b set)
      × valid (answer set op).0
