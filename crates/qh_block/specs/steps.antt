-- Definitions that only private functions use. A reader of the headline need not trust them.
pub mod CoarsePlanes
pub mod CornerBoxes
pub mod Faces
pub mod FlatBodies
pub mod IdSets
pub mod InnerPoints
pub mod Segments
