pub mod Part
pub mod Scalar
