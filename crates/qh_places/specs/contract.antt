-- Definitions that the contracts of public functions cite.
pub mod Bundles
pub mod Near
pub mod Places
