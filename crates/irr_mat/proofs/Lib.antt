pub mod Blocks
pub mod Bounds
pub mod Entries
pub mod PartialSums
pub mod Projections
pub mod Sizes
pub mod Trial
