pub mod Lcm
pub mod Lowest
pub mod VectorMeaning
pub mod RatioMeaning
