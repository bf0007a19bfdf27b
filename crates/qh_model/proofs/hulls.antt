-- Hulls: each part is unique, and a set and its extreme ids have the same hull.
pub mod Unique
pub mod FlatSets
pub mod OfExtremes
pub mod SameSets
pub mod ExtremeParts
pub mod RightValues
pub mod ExtremePoints
