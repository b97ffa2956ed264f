pub mod Coefficient
pub mod PowerSum
pub mod Reduction
pub mod RootSum
