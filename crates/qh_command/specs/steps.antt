-- Definitions that private functions cite: nothing to believe.
pub mod Matches
