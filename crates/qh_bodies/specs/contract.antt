-- Definitions that the contracts of public functions cite.
pub mod ApartPolygons
pub mod Borders
pub mod OpenSteps
pub mod Order
pub mod SolidEdges
pub mod Tallies
