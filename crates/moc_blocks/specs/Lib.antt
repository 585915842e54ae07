pub mod RangeList
pub mod Blocks
pub mod Lemmas
pub mod Private
