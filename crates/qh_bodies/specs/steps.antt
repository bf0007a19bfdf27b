-- Definitions that only private functions use. A reader of the headline need not trust them.
pub mod FaceKeys
pub mod StepKeys
pub mod PartTallies
