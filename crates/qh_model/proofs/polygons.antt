-- Polygons: at most one for each set and direction.
pub mod Cycles
pub mod Unique
pub mod Direction
pub mod Neighbours
pub mod PlaneTurns
pub mod LeftOfEdge
pub mod Edges
pub mod OtherFace
pub mod Fans
pub mod EdgeCounts
pub mod ClosedFaces
pub mod Steps
