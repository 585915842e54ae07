-- Definitions that only contracts of private functions and views of types use.
pub mod Codes
pub mod Texts
pub mod LaneWork
pub mod LaneEnds
pub mod Input
pub mod Gathering
pub mod Joining
pub mod Promises
