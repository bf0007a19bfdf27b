-- Closed surfaces: sums over edges, the signed volume, the cancellation of separators, supporting triangles, and their corners.
pub mod Sums
pub mod SignedVolume
pub mod Cancellation
pub mod Beyond
pub mod Supporting
pub mod PlaneCorners
