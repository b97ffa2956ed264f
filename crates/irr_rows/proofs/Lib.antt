pub mod NumberOrder
pub mod RowOrder
pub mod Increasing
pub mod OneOrder
