pub mod EachItems
pub mod SideLists
pub mod LiftedTraces
pub mod LittleOperations
pub mod MemberSizes
pub mod StarsByWaves
