pub mod Product
pub mod Exponents
pub mod Coset
pub mod Occurrence
