-- Definitions that only private contracts, views and invariants use.
pub mod Changes
pub mod Drafts
pub mod EffectiveSet
pub mod PartSets
