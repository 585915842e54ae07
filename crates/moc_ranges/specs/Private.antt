-- Definitions for private contracts, views, invariants and lemmas. Only this crate uses them.
pub mod Sorted
pub mod Widen
pub mod CellRuns
pub mod CellCounts
pub mod Walks
pub mod Collected
pub mod SortedCells
