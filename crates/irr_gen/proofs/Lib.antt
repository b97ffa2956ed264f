pub mod SignedRows
pub mod Quarters
pub mod MadeLines
pub mod SmallWaves
pub mod OneInput
