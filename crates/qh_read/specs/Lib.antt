pub mod contract
pub mod headline
pub mod steps
