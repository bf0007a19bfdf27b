-- The laws of mapped points: consequences of the definitions.
pub mod MapLaws
