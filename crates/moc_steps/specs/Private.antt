-- Definitions that only private contracts, views and invariants use.
pub mod ClientState
pub mod Effects
pub mod Worlds
pub mod Codes
