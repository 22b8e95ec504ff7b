pub mod Knowledge
pub mod Holding
pub mod Entries
pub mod Blocks
pub mod Keeping
pub mod Falls
pub mod Cells
pub mod StoredBlocks
