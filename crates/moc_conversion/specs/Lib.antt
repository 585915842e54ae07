pub mod Errors
pub mod Conversion
pub mod Combining
pub mod Notes
pub mod Private
