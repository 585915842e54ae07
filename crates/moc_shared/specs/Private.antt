-- Definitions for private contracts. Public contracts use three of them: `IsClientOf` and `IsHoldingOf` of `Seated`,
-- and `SatisfiesInvariant` of `Seats`.
pub mod Invariant
pub mod Seats
pub mod Seated
pub mod OperationEffects
pub mod StepEffects
pub mod InitialViews
pub mod Slots
pub mod InitialSlots
pub mod Held
pub mod CommandResults
