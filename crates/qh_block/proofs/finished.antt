-- Finished meshes: walks in the planes of facets, and the faces that they gather.
pub mod Corners
pub mod NamedWalks
pub mod NewFaces
pub mod LoneTriangles
pub mod FaceLists
pub mod Gathering
pub mod Parting
pub mod ClosedFaces
pub mod SolidBodies
