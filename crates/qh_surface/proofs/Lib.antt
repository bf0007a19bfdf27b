pub mod Chains
pub mod FoundFacets
pub mod LiveFacets
pub mod NamedFacets
pub mod NewSets
pub mod Steps
pub mod WalkSteps
pub mod runs
