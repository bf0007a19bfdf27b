-- Definitions that the contracts of public functions cite.
pub mod Joined
pub mod Kept
pub mod Parts
