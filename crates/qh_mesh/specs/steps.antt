-- Definitions that private functions cite: nothing to believe.
pub mod Kept
pub mod ThreeTwins
pub mod Horizons
pub mod Cones
pub mod Places
pub mod Rebuilt
pub mod Rooms
pub mod Surfaces
pub mod Twins
pub mod Writes
