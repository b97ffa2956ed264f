pub mod Joined
pub mod Over
pub mod First
