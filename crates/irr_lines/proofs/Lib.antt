pub mod FirstLines
pub mod AllLines
