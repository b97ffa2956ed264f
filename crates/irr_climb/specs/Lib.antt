pub mod Families
pub mod Sizes
pub mod Lists
pub mod Splits
pub mod Steps
pub mod Refusals
pub mod Climbed
pub mod Extensions
