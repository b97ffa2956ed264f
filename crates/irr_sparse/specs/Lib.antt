pub mod TermList
pub mod Parts
pub mod Value
