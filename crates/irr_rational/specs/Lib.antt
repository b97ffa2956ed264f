pub mod Integer
pub mod Rational
pub mod Order
pub mod Ratio
