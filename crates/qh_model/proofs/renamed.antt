-- The hulls of sets of ids that are renamed in the same order.
pub mod Renaming
pub mod Lists
pub mod Polygons
pub mod Edges
pub mod Bodies
pub mod Positions
