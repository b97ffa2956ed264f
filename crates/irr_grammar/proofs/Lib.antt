pub mod ShapePlaces
pub mod Recognisers
