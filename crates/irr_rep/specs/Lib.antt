pub mod Defects
pub mod Family
pub mod Generators
pub mod Table
pub mod TableLaws
pub mod Subgroup
pub mod Twisted
