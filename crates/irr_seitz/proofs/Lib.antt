pub mod Sizes
pub mod Rotations
pub mod RotationOrder
pub mod Vectors
pub mod Orders
pub mod Adjugate
pub mod Inverses
