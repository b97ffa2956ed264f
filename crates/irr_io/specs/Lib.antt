pub mod Count
pub mod Told
pub mod Views
pub mod InMemory
