-- Definitions that private functions cite: nothing to believe.
pub mod Apart
pub mod Given
pub mod Kept
pub mod RingKeys
pub mod Triangles
pub mod Witnesses
