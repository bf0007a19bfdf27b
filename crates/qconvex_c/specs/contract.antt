-- Further definitions that the contracts of public functions cite.
pub mod Flat
pub mod Answered
pub mod Triangles
pub mod Codes
pub mod Sets
pub mod Volumes
pub mod Checked
pub mod Neighbors
