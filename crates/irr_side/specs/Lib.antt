pub mod Sides
pub mod ArmTraces
