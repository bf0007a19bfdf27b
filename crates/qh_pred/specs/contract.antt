-- Other definitions that the contracts of public functions cite.
pub mod Bounds
pub mod Corners
pub mod Planes
pub mod Ranges
pub mod Turns
