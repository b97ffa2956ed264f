pub mod Rotation
pub mod FiniteOrder
pub mod OperationMeaning
pub mod OperationOrder
pub mod PhaseMeaning
