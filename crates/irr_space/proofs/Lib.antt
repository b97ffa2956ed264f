pub mod FullLists
