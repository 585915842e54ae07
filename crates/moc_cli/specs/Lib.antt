pub mod Actions
pub mod Requests
pub mod Explanations
pub mod Listing
pub mod Numbers
pub mod Endings
pub mod Statuses
pub mod Private
