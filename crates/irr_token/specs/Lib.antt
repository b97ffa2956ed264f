pub mod Kinds
pub mod Token
pub mod Spelling
pub mod Quotient
pub mod Reading
pub mod Fault
