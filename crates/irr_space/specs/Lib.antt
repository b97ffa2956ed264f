pub mod Operation
pub mod SpaceGroup
pub mod Reciprocal
pub mod CanonicalOperation
pub mod Star
pub mod PhaseTable
pub mod CompleteList
