-- Definitions that the laws of measures cite.
pub mod Covering
pub mod Measures
