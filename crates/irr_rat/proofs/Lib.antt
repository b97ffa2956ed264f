pub mod Multiples
pub mod LowestForms
pub mod Vectors
pub mod Lexicographic
pub mod Reduction
pub mod Fractions
pub mod CommonDenominators
