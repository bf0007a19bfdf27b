-- Definitions that public clauses cite.
pub mod LatticeMaps
