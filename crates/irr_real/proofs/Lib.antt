pub mod Opposites
pub mod Listed
pub mod SquarePlaces
pub mod FamilyTraces
pub mod TermSums
pub mod FormTypes
pub mod StarSums
pub mod PowerMatrices
