pub mod RationalForm
pub mod OneText
