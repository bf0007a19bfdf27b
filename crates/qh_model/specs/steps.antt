-- Definitions that only private functions use. A reader of the headline need not trust them.
pub mod Corners
pub mod Endings
pub mod FarCorners
pub mod Walks
