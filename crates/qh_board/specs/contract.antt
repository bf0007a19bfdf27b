-- Definitions that public clauses cite: the record of a pass, the contract view of a token and a board, and the result of each call.
pub mod Records
pub mod Tokens
pub mod Told
pub mod Closings
