-- The parts of an abandoned holding: no client owns the seat that holds them.
use Rattle.std.specs.Prelude.{◌≡◌, ℕ, suc, List, [], ◌∷◌, ◌++◌, Contains, Option, slice_index, slice_set}
use mathlib.Core.Option.{none, some}
use lib.ListN.{get_elem?}
use Rattle.atomic_table.specs.Table.{Act, stepped}
use Rattle.moc_lists.specs.RangeList.{NumberSet}
use Rattle.moc_shared.specs.Seats.{table_index, note, Pointer, ClientView, Table}
pub use Rattle.moc_shared.specs.Private.Seats.{SatisfiesInvariant}

-- the seat has this view
abbrev pub HasView : List ClientView → ℕ → ClientView → Type 0
HasView views seat v = get_elem? views seat ≡ some v

-- a client holds a part in the table: the lock word has the client's mark, and the slot is empty
abbrev pub IsHeldIn : Table → ℕ → ℕ → Type 0
IsHeldIn table c b =
    (slice_index table.words (table_index b) ≡ suc c) × (get_elem? table.homes (table_index b) ≡ some none)

-- A part that a view notes as held is held by the client of the view, in each table that satisfies the invariant. No
-- step, join or split of other seats changes the view, and only the owner of a seat can make steps with it. Therefore
-- the parts of an abandoned holding stay held.
pub record AbandonedPartsStayHeld : Type 0 where
  pub marked : (start : NumberSet) (clients : ℕ) (table : Table) (seat : ℕ) (v : ClientView) (b : ℕ)
      (y : Option NumberSet)
      → SatisfiesInvariant start clients table → HasView table.views seat v → Contains v.holds (note b y)
      → IsHeldIn table v.mine.number b
  pub steps : (table : Table) (seat other : ℕ) (v w : ClientView) (word number : ℕ)
      (carried : List (ℕ × Option Pointer))
      (act : Act (Option Pointer)) → HasView table.views seat v → ¬ (seat ≡ other)
      → HasView (stepped table word number other carried w act).views seat v
  pub joins : (views : List ClientView) (seat first second : ℕ) (v both spent : ClientView) → HasView views seat v
      → ¬ (seat ≡ first) → ¬ (seat ≡ second) → HasView (slice_set (slice_set views first both) second spent) seat v
  pub splits : (views : List ClientView) (seat other : ℕ) (v left right : ClientView) → HasView views seat v
      → ¬ (seat ≡ other)
      → HasView (slice_set views other left ++ right ∷ []) seat v
