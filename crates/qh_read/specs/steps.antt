-- Definitions that private functions cite: nothing to believe.
pub mod Arriving
pub mod Building
pub mod Corners
pub mod Cursors
pub mod Lists
pub mod Numbers
pub mod Reader
pub mod Scanning
pub mod Segments
pub mod Signs
pub mod SmallTokens
pub mod Sources
pub mod Stages
