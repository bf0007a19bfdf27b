-- The laws of surfaces in pieces: which lists are surfaces, and the measures of their pieces.
pub mod CoverLaws
pub mod MeasureLaws
pub mod SurfaceLaws
