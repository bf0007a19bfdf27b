-- Other definitions that the contracts of public functions cite.
pub mod BoardMachine
pub mod Bodies
pub mod ClosedPolygons
pub mod ClosedSurface
pub mod Cut
pub mod FaceTriangles
pub mod FinishedSurface
pub mod Halves
pub mod IdSets
pub mod Places
pub mod Rewired
pub mod RightValue
pub mod Simplex
pub mod SoundSurface
pub mod StoredSurface
pub mod Surface
pub mod Weighted
