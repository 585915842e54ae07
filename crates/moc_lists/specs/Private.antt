-- Definitions that only this crate uses.
pub mod BlockBuilder
