-- Definitions that a reader of the headline has to believe.
pub mod Answers
pub mod Serving
