pub mod contract
