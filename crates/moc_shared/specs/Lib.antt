pub mod History
pub mod Batches
pub mod Seats
pub mod Clients
pub mod Abandoned
pub mod Private
