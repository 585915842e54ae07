pub use Rattle.moc_devices.specs.Devices
pub use Rattle.moc_lines.specs.Language
pub use Rattle.moc_lines.specs.Runs
pub use Rattle.moc_lines.specs.Numberings
pub mod Schedules
pub mod Crews
pub mod Private
pub mod Theorems
