-- Definitions for the contracts of private functions.
pub mod Store
pub mod Lending
pub mod Lookup
pub mod ClientHandle
pub mod StateLending
pub mod Storing
pub mod Making
pub mod CellCommands
pub mod Rows
