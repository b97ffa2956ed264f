pub mod Forms
pub mod Sums
pub mod Reductions
pub mod Operations
pub mod Sizes
pub mod Powers
pub mod RootSums
pub mod RootSizes
