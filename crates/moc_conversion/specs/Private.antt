-- Definitions that only contracts of private functions use.
pub mod Pieces
pub mod Running
