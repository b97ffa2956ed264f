pub mod Operations
pub mod Reciprocals
pub mod Phases
pub mod Numberings
pub mod PhaseTables
pub mod LittleGroups
pub mod OneOperation
