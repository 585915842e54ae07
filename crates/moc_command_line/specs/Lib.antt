pub mod CommandLine
pub mod Private
