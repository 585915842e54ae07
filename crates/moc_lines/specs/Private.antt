-- Definitions that only contracts of private functions and views of types use.
pub mod ReaderState
pub mod LineReading
pub mod Ended
pub mod Input
pub mod Finding
pub mod TextErrors
pub mod Verbs
pub mod CellLines
pub mod Placing
