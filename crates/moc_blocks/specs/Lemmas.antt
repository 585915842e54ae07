-- Lemmas on sets of numbers and lists of ranges, for the proofs of callers.
pub mod Members
pub mod Ranges
pub mod Sizes
