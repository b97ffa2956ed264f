pub mod CloseErrors
pub mod Subgroup
pub mod Restrictions
pub mod SubduceText
pub mod ArmWaves
pub mod PartTraces
pub mod Meetings
