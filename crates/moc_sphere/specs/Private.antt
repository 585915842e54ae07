-- Definitions that only contracts of private functions use.
pub mod RingFormula
pub mod Sides
pub mod Spread
pub mod Sums
