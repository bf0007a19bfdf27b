-- Definitions that the contracts of public functions cite.
pub mod Cells
pub mod CoarsePlanes
pub mod CornerBoxes
pub mod KeptIds
pub mod MarkedFaces
