-- Further definitions that the contracts of public functions cite.
pub mod CommandLine
pub mod Ranges
