-- Convex combinations: vectors of any dimension, weighted members, and the theorem of alternatives.
pub mod Vectors
pub mod WeightedTerms
pub mod Alternatives
pub mod OtherNames
