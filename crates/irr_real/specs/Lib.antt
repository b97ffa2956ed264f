pub mod Places
pub mod Families
pub mod Squares
pub mod Answer
