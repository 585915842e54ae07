pub use Rattle.moc_blocks.specs.RangeList
pub use Rattle.moc_blocks.specs.Blocks
pub use Rattle.moc_blocks.specs.Lemmas
pub mod Private
