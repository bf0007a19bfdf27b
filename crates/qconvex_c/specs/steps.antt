-- Definitions that private functions cite: nothing to believe.
pub mod Codes
pub mod FaceFans
pub mod Buffers
pub mod SideKeys
