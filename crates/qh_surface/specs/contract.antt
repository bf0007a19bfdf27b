-- Definitions that public clauses cite. A reader of the headline need not trust them.
pub mod Corners
pub mod NamedMeshes
pub mod OutsideSets
pub mod Simplexes
pub mod Walks
