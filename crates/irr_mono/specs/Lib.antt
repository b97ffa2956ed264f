pub mod Monomial
pub mod Columns
