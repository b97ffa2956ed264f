pub mod Families
pub mod Trials
pub mod Verdict
pub mod Limits
pub mod Operations
pub mod Faults
pub mod Pairs
pub mod Listed
