pub mod Vectors
pub mod Translations
pub mod Reciprocals
pub mod OnePlace
pub mod OneOperation
pub mod ReportOfOne
pub mod Remainders
