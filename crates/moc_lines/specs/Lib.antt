pub mod Language
pub use Rattle.moc_devices.specs.Devices
pub mod Runs
pub mod Numberings
pub mod Private
pub mod Places
