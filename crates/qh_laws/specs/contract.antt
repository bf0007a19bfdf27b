-- Definitions that the code that joins parts cites.
pub mod Between
pub mod LocallyConvex
pub mod Parts
pub mod Scaled
pub mod Seam
