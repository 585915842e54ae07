-- Lemmas on sets of numbers, for the proofs of callers.
pub mod Members
