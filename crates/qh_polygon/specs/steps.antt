-- Definitions that private functions cite: nothing to believe.
pub mod Chains
pub mod PlaceKeys
pub mod InnerPlaces
