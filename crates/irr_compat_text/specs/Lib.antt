pub mod CompatText
pub mod Printed
