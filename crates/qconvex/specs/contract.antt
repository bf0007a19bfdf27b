-- Definitions that the contracts of public functions cite.
pub mod Outcomes
pub mod Runs
