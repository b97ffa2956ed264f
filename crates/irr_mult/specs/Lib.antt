pub mod Listing
pub mod StarParts
pub mod Traced
pub mod Classes
pub mod Stars
pub mod OrderedWaves
pub mod StarSearch
