-- Definitions that only private functions use. A reader of the headline need not trust them.
pub mod Cones
pub mod Planes
pub mod PositionChains
pub mod Positions
pub mod RunStates
pub mod Runs
pub mod Settling
