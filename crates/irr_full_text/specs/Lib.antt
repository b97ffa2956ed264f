pub mod FullText
pub mod Lines
pub mod Reading
pub mod Printed
