-- Texts, and their values when they are read.
pub mod RenamedTexts
pub mod Decimals
pub mod Lines
pub mod OffTexts
pub mod RoundTrip
