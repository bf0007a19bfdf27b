-- Definitions that only private functions use. A reader of the headline need not trust them.
pub mod CornerMarks
pub mod Corners
pub mod Faces
pub mod Findings
pub mod Hidden
pub mod HullFaces
pub mod OwnIndices
pub mod Rays
pub mod Rounds
pub mod Sharp
pub mod StepKeys
pub mod Triangles
