-- Definitions that private functions cite: nothing to believe.
pub mod Boxes
pub mod Levels
pub mod Slabs
