pub mod Relations
pub mod Parts
pub mod Rows
pub mod Turns
pub mod Readings
pub mod LineTables
