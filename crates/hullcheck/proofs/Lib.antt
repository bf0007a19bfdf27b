pub mod KnownFiles
pub mod WordLaws
