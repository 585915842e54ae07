pub mod Requests
pub mod Controls
pub mod Parsing
pub mod StatusLemmas
pub mod Names
pub mod NumberLines
pub mod Writing
