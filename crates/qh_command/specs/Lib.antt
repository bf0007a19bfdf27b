pub mod headline
pub mod contract
pub mod steps
