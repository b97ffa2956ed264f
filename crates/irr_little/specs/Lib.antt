pub mod Places
pub mod Products
pub mod Entries
pub mod Table
pub mod Steps
pub mod Line
pub mod Arms
