-- Sets in a point, a line or a plane: their hulls.
pub mod Lines
pub mod Edges
pub mod Bodies
pub mod Polygons
