pub mod Devices
pub mod Lemmas
