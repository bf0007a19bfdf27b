-- Further definitions that the contracts of public functions cite.
pub mod Answers
pub mod FaceFaults
pub mod FaceFiles
pub mod FaceWords
pub mod Holding
pub mod Numerals
pub mod Progress
pub mod ReadFaults
pub mod Tokens
