-- Runs of Quickhull: their steps.
pub mod SetWrites
pub mod PickedApexes
pub mod SettledOrphans
pub mod WaitingFacets
pub mod RenewedPlanes
pub mod Rounds
pub mod FirstSimplexes
pub mod FinishedRuns
pub mod OrderedIds
pub mod ConeRings
