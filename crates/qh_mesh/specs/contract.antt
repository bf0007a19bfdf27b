-- Further definitions that the contracts of public functions cite.
pub mod Edges
pub mod LiveNumbers
pub mod Names
pub mod Replacement
pub mod SoundMesh
