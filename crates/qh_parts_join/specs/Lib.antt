pub mod contract
pub mod steps
