-- Definitions that private functions cite: nothing to believe.
pub mod Numberings
pub mod EdgeKeys
pub mod Forms
pub mod Parts
