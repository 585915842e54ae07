-- Definitions that only this crate and `moc_ranges` use.
pub mod Walks
pub mod Slices
pub mod Differing
pub mod SymmetricBounds
pub mod Meeting
pub mod Taking
