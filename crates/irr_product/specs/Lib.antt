pub mod Products
pub mod ProductText
pub mod ClassRows
pub mod Sums
pub mod Meetings
