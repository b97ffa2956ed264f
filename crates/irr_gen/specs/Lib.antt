pub mod Symmetry
pub mod Groups
pub mod Signed
pub mod MadeInput
