pub mod Ends
pub mod Half
pub mod Mixed
pub mod LeadingZeros
pub mod Pieces
pub mod Ranges
