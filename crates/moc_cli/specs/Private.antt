-- Definitions that only contracts of private functions use.
pub mod NumberCells
pub mod Ending
pub mod Matches
pub mod Writing
