pub mod contract
pub mod headline
pub mod laws
pub mod steps
