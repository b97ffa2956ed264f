pub mod Stars
pub mod Sizes
pub mod Products
pub mod Blocks
pub mod Induced
