pub mod Setting
pub mod Determinant
