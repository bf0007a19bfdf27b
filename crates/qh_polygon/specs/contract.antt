-- Further definitions that the contracts of public functions cite.
pub mod PlaceNumbers
pub mod PlaceKeys
pub mod PlanarSets
pub mod Shapes
pub mod Marks
