-- Definitions that public clauses cite: all that a reader of the program has to believe, beside qh_check and qh_read.
pub mod Answering
pub mod Checking
pub mod CommandLine
pub mod FaultTexts
pub mod Judging
pub mod Runs
pub mod Statuses
