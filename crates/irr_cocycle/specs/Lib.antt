pub mod SpaceGroupLaws
pub mod SubgroupTable
