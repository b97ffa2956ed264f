pub mod Cofactors
pub mod Bases
pub mod Numbers
pub mod LowestNumbers
pub mod ImageVectors
pub mod ImageLaws
