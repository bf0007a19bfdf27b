-- Definitions that the contracts of public functions cite.
pub mod Claims
pub mod Judging
pub mod Naming
pub mod Pieces
pub mod SharpSurface
pub mod Surfaces
pub mod Texts
