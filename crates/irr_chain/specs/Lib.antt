pub mod NormalSubgroup
pub mod Quotient
pub mod Marks
pub mod Series
