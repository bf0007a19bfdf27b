-- Definitions that private functions cite: nothing to believe.
pub mod CloseBoxes
pub mod Pieces
pub mod FirstIds
pub mod PlaceKeys
pub mod HashedKeys
pub mod HashGroups
pub mod Repeats
pub mod SortedPoints
pub mod SharedSlots
