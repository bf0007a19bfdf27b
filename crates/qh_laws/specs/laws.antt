-- The laws: consequences of the definitions.
pub mod ConvexLaws
pub mod ExistenceLaws
pub mod PartLaws
pub mod PointLaws
pub mod ScaleLaws
pub mod TreeLaws
