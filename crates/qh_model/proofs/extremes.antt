-- Extreme ids: the greatest member, unions, faces, dimensions and supporting planes.
pub mod LexicographicOrder
pub mod ExtremeIds
pub mod Faces
pub mod AffineForms
pub mod Axes
pub mod Dimensions
pub mod SameDimension
pub mod Directions
pub mod SpanningTriples
