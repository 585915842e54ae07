-- Definitions that only this crate and the crates over it, up to `moc_ranges`, use.
pub mod Blocks
pub mod Built
pub mod Walks
pub mod Edits
