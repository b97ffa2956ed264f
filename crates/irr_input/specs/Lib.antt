pub mod PointText
pub mod Command
pub mod Forms
pub mod SectionLines
pub mod Stages
pub mod InputLines
pub mod LineReading
pub mod SectionReading
