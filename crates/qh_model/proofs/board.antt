-- The board: updates of functions and their sums, invariants of the events, the number of events, the root, and spans.
pub mod Updates
pub mod Siblings
pub mod Grown
pub mod Joined
pub mod Kept
pub mod Counts
pub mod Root
pub mod Histories
pub mod Reached
pub mod Laws
pub mod Spans
