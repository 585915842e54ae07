pub mod Operations
pub mod Lemmas
pub mod Private
