pub mod MovedBlocks
