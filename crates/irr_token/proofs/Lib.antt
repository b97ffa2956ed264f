pub mod Lexing
pub mod Blanks
pub mod Signs
pub mod Narrowing
pub mod FirstFaults
pub mod PrintedQuotients
pub mod SpelledOnce
pub mod OneFault
