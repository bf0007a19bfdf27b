-- Definitions that private functions cite: nothing to believe.
pub mod Files
pub mod Words
