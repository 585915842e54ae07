pub mod Checks
pub mod Combinations
pub mod Depths
pub mod Pictures
pub mod Sending
