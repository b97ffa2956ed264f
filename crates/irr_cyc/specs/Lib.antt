pub mod Terms
pub mod Form
pub mod Part
