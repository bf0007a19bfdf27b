pub mod headline
pub mod contract
