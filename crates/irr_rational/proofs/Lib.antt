pub mod Integers
pub mod Ratios
pub mod WholeNumbers
pub mod Orders
pub mod Floors
pub mod Lexicographic
pub mod LowestTerms
pub mod ListedRatios
