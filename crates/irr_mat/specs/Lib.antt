pub mod Blocks
pub mod Entries
pub mod Rank
pub mod Size
